-- `instruction::alloc` meets its contract. Assumes nothing.
use Rattle.std.proofs.Common.{sym}
use Rattle.instruction.specs.Turn.{lend_in}
use Rattle.instruction.proofs.Turns.{fitting, turn_no_block, turn-block}
use Rattle.instruction.proofs.alloc.Goals as goal

pub returns-in_default-clause-turned : goal.returns-in_default-clause-turned
returns-in_default-clause-turned c =
    λ s pc f l e. rw c.stopped.ensures
    (sym (turn_no_block s _ _ (lend_in f c.args.heap.now l) (fitting pc f c.args.heap.now l) _ _ _ _ _ _
    (rw (c.new.ensures.0, c.new.ensures.1) at c.alloc.ensures.outcome) c.in_default.is))

pub returns-clause-turned : goal.returns-clause-turned
returns-clause-turned c =
    λ s pc f l e. rw (c.write.ensures, e) (sym
    (turn-block s _ _ (lend_in f c.args.heap.now l) (fitting pc f c.args.heap.now l) _ _ _ _ _ _
    (rw (c.new.ensures.0, c.new.ensures.1) at c.alloc.ensures.outcome) _ c.in-Some.is))
