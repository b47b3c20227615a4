-- `names::interner::Names::names_belong` meets its contract. Assumes nothing.
use Rattle.vm.proofs.Tested.{by_test}
use Rattle.names.proofs.interner.Names.names_belong.Goals as goal

pub returns : goal.returns
returns c = rw (c.ok_or.ensures.value, c.then_some.ensures, c.sound-sound.ensures) (by_test _ _)
