-- `vm::lent::slots_ok` meets its contract. Assumes nothing.
use mathlib.Core.Path.{refl}
use Rattle.vm.specs.Machine.{slots_ok}
use Rattle.vm.proofs.lent.slots_ok.Goals as goal

pub returns : goal.returns
unfolding slots_ok
returns c = rw c.slot_count.ensures refl
