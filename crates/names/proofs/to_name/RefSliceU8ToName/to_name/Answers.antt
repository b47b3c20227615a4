-- `names::to_name::RefSliceU8ToName::to_name` meets its contract. Assumes nothing.
use mathlib.Core.Path.{refl}
use Rattle.program.specs.Image.{failing}
use Rattle.names.proofs.to_name.RefSliceU8ToName.to_name.Goals as goal

pub returns-clause-tested : goal.returns-clause-tested
unfolding failing
returns-clause-tested c = refl
