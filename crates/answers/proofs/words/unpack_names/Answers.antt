-- `answers::words::unpack_names` meets its contract. Assumes nothing.
use mathlib.Core.Path.{refl}
use Rattle.answers.specs.Words.{unpacked}
use Rattle.answers.proofs.words.unpack_names.Goals as goal

pub returns : goal.returns
unfolding unpacked
returns c = refl
