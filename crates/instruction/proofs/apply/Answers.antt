-- `instruction::apply` meets its contract. Assumes nothing.
use Rattle.std.proofs.Common.{refl, sym}
use Rattle.instruction.specs.Turn.{lend_in}
use Rattle.instruction.proofs.Turns.{fitting, turn_skip, turn_goto, turn-stop, turn_unlisted, turn-halt}
use Rattle.instruction.proofs.apply.Goals as goal

pub returns-in-Set-clause-turned : goal.returns-in-Set-clause-turned
returns-in-Set-clause-turned c = λ s l. rw c.in-Set.is (c.set.ensures.turned s _ c.args.frames.now c.args.heap.now l refl)

pub returns-in-Skip-clause-turned : goal.returns-in-Skip-clause-turned
returns-in-Skip-clause-turned c =
    λ s l. rw c.in-Skip.is (sym (turn_skip s _ _ (lend_in c.args.frames.now c.args.heap.now l) (fitting _ c.args.frames.now c.args.heap.now l)))

pub returns-in-Goto-clause-turned : goal.returns-in-Goto-clause-turned
returns-in-Goto-clause-turned c =
    λ s l. rw c.in-Goto.is (sym (turn_goto s _ _ (lend_in c.args.frames.now c.args.heap.now l) (fitting _ c.args.frames.now c.args.heap.now l) _))

pub returns-in-Call-clause-turned : goal.returns-in-Call-clause-turned
returns-in-Call-clause-turned c = λ s l. rw c.in-Call.is (c.call.ensures.turned s _ c.args.heap.now l)

pub returns-in-Ret-clause-turned : goal.returns-in-Ret-clause-turned
returns-in-Ret-clause-turned c = λ s l. rw c.in-Ret.is (c.ret.ensures.turned s _ c.args.heap.now l)

pub returns-in-Load-clause-turned : goal.returns-in-Load-clause-turned
returns-in-Load-clause-turned c = λ s l. rw c.in-Load.is (c.load.ensures.turned s _ c.args.frames.now l refl)

pub returns-in-Store-clause-turned : goal.returns-in-Store-clause-turned
returns-in-Store-clause-turned c = λ s l. rw c.in-Store.is (c.store.ensures.turned s _ _ c.args.frames.now l refl)

pub returns-in-Alloc-clause-turned : goal.returns-in-Alloc-clause-turned
returns-in-Alloc-clause-turned c = λ s l. rw c.in-Alloc.is (c.alloc.ensures.turned s _ c.args.frames.now l refl)

pub returns-in-Stop-clause-turned : goal.returns-in-Stop-clause-turned
returns-in-Stop-clause-turned c =
    λ s l. rw c.in-Stop.is (sym (turn-stop s _ _ (lend_in c.args.frames.now c.args.heap.now l) (fitting _ c.args.frames.now c.args.heap.now l) _))

pub returns-in-Unlisted-clause-turned : goal.returns-in-Unlisted-clause-turned
returns-in-Unlisted-clause-turned c =
    λ s l. rw c.in-Unlisted.is (sym (turn_unlisted s _ _ (lend_in c.args.frames.now c.args.heap.now l) (fitting _ c.args.frames.now c.args.heap.now l) _))

pub returns-in-Halt-clause-turned : goal.returns-in-Halt-clause-turned
returns-in-Halt-clause-turned c =
    λ s l. rw c.in-Halt.is (sym (turn-halt s _ _ (lend_in c.args.frames.now c.args.heap.now l) (fitting _ c.args.frames.now c.args.heap.now l)))
