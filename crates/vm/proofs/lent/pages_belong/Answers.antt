-- `vm::lent::pages_belong` meets its contract. Assumes nothing.
use Rattle.vm.proofs.Tested.{by_test}
use Rattle.vm.proofs.lent.pages_belong.Goals as goal

pub returns : goal.returns
returns c = rw (c.ok_or.ensures.value, c.then_some.ensures, c.sound.ensures) (by_test _ _)
