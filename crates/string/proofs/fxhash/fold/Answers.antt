-- `string::fxhash::fold` meets its contract. Assumes nothing.
use mathlib.Core.Path.{refl}
use Rattle.string.specs.Hash.{folded}
use Rattle.string.proofs.fxhash.fold.Goals as goal

pub returns : goal.returns
unfolding folded
returns c = refl
