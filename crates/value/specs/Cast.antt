-- A register as a truth, and the three casts. Definitions only.
use Rattle.std.specs.Prelude.{ℕ, Bool, true, false, not, ◌==◌}
use Rattle.std.specs.Float.{binary64}
use Rattle.std.specs.Float.Ieee.{of_int, to_signed}
use Rattle.value.specs.Int.{signed, pattern}
use Rattle.value.specs.Double.{double, bits}

-- every pattern but 0 is true, that of -0.0 too
abbrev pub truth : ℕ → Bool
truth p = not (p == 0)

-- how a truth is written
abbrev pub bit : Bool → ℕ
bit true = 1
bit false = 0

abbrev pub cast_to_bool : ℕ → ℕ
cast_to_bool p = bit (truth p)

-- Rust's `as f64` of an i64: the nearest number, and of two that are as near the one whose last digit is even
abbrev pub cast_to_double : ℕ → ℕ
cast_to_double p = bits (of_int binary64 (signed p))

-- Rust's `as i64` of an f64: toward zero; outside the range, of 63 bits and a sign, to its nearer end; 0 for a NaN
abbrev pub cast_to_int : ℕ → ℕ
cast_to_int p = pattern (to_signed 63 (double p))
