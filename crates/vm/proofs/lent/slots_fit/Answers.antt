-- `vm::lent::slots_fit` meets its contract. Assumes nothing.
use Rattle.vm.proofs.Tested.{by_test}
use Rattle.vm.proofs.lent.slots_fit.Goals as goal

pub returns : goal.returns
returns c = rw (c.ok_or.ensures.value, c.then_some.ensures, c.slots_ok.ensures) (by_test _ _)
