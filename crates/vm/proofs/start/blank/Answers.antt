-- `vm::start::blank` meets its contract. Assumes nothing.
use mathlib.Core.Path.{refl}
use Rattle.vm.specs.Machine.{blank}
use Rattle.vm.proofs.start.blank.Goals as goal

pub returns : goal.returns
unfolding blank
returns c = λ l. refl
