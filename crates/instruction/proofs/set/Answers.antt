-- `instruction::set` meets its contract. Assumes nothing.
use Rattle.std.proofs.Common.{sym}
use Rattle.instruction.specs.Turn.{lend_in}
use Rattle.instruction.proofs.Turns.{fitting, turn-set}
use Rattle.instruction.proofs.set.Goals as goal

pub returns-clause-turned : goal.returns-clause-turned
returns-clause-turned c = λ s pc f h l e. rw (c.write.ensures, e) (sym (turn-set s _ _ (lend_in f h l) (fitting pc f h l) _ _))
