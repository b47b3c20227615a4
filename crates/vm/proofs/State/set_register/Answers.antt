-- `vm::State::set_register` meets its contract. Assumes nothing.
use Rattle.vm.proofs.Replies.{register-refused, register_put}
use Rattle.vm.proofs.State.set_register.Goals as goal

pub returns-then-register-ge-REGISTER_COUNT : goal.returns-then-register-ge-REGISTER_COUNT
returns-then-register-ge-REGISTER_COUNT c = λ l. register-refused _ l _ _ c.if-register-ge-REGISTER_COUNT.true

pub returns : goal.returns
returns c = λ l. register_put _ l _ _ c.if-register-ge-REGISTER_COUNT.false
