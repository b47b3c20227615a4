-- `vm::State::set_pc` meets its contract. Assumes nothing.
use Rattle.vm.proofs.Replies.{pc_put}
use Rattle.vm.proofs.State.set_pc.Goals as goal

pub returns : goal.returns
returns c = λ l. pc_put _ l _
