-- `vm::lent::heap_fits` meets its contract. Assumes nothing.
use Rattle.vm.proofs.Tested.{by_test}
use Rattle.vm.proofs.lent.heap_fits.Goals as goal

pub returns : goal.returns
returns c = rw (c.ok_or.ensures.value, c.then_some.ensures, c.heap_ok.ensures) (by_test _ _)
