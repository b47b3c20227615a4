-- All rows of the table of worked cases hold, by computation. Assumes nothing.
use Rattle.std.specs.Prelude.{◌≡◌, true, refl}
use Rattle.std.specs.Float.Ieee as Ieee
use Rattle.std.specs.Float.Ieee.{is_nan, of_bits, to_bits, of_int}
use Rattle.memory.specs.Rows.{hold}
use Rattle.value.specs.Int.{signed, pattern, divided}
use Rattle.value.specs.Double.{bits}
use Rattle.value.specs.Cases.{rows}

pub all_hold : hold rows ≡ true
unfolding rows hold signed pattern divided bits is_nan of_bits to_bits of_int Ieee.add Ieee.sub Ieee.mul Ieee.div Ieee.lt
all_hold = refl
