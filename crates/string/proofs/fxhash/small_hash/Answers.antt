-- `string::fxhash::small_hash` meets its contract. Assumes nothing.
use mathlib.Core.Path.{ap, ◌∙◌}
use Rattle.string.specs.Hash.{folded, small_hash_of}
use Rattle.string.proofs.fxhash.small_hash.Goals as goal

pub returns : goal.returns
unfolding small_hash_of
returns c = c.fold.ensures ∙ ap folded c.mix.ensures
