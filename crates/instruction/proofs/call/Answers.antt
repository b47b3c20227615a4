-- `instruction::call` meets its contract. Assumes nothing.
use Rattle.std.proofs.Common.{sym}
use Rattle.instruction.specs.Turn.{lend_in}
use Rattle.instruction.proofs.Turns.{fitting, turn-deep, turn-call}
use Rattle.instruction.proofs.call.Goals as goal

pub returns-then-not-push-clause-turned : goal.returns-then-not-push-clause-turned
returns-then-not-push-clause-turned c =
    λ s regs h l. let full = c.push.ensures.full c.if-not-push.true in
    rw (c.stopped.ensures, full.1, full.2) (sym (turn-deep s _ regs (lend_in c.args.frames.now h l) (fitting _ c.args.frames.now h l) _ full.0))

pub returns-clause-turned : goal.returns-clause-turned
returns-clause-turned c =
    λ s regs h l. let pushed = c.push.ensures.pushed c.if-not-push.false in
    rw (pushed.1, pushed.2) (sym (turn-call s _ regs (lend_in c.args.frames.now h l) (fitting _ c.args.frames.now h l) _ pushed.0))
