-- `string::name::RefSliceU8Name::is` meets its contract. Assumes nothing.
use mathlib.Core.Path.{◌∙◌}
use Rattle.memory.proofs.Same.{pointwise-same}
use Rattle.string.proofs.name.RefSliceU8Name.is.Goals as goal

pub returns : goal.returns
returns c = c.eq.ensures ∙ pointwise-same _ _
