-- `instruction::ret` meets its contract. Assumes nothing.
use Rattle.std.proofs.Common.{◌≡◌, suc, sym, arith}
use Rattle.instruction.specs.Turn.{lend_in}
use Rattle.instruction.proofs.Turns.{fitting, turn_underflow, turn_ret}
use Rattle.instruction.proofs.ret.Goals as goal

pub returns-in_default-clause-turned : goal.returns-in_default-clause-turned
returns-in_default-clause-turned c =
    let none = c.in_default.ensures.popped in
    λ s regs h l. rw (c.stopped.ensures, c.pop.ensures.places, none.1, ← none.0)
    (sym (turn_underflow s _ regs (lend_in c.args.frames.now h l) (fitting _ c.args.frames.now h l) none.0))

pub returns-clause-turned : goal.returns-clause-turned
returns-clause-turned c =
    let top = c.in-Some.ensures.popped in
    let deeper : c.args.frames.now.depth ≡ suc c.pop.new.self.depth = omega (arith, top.0) in
    λ s regs h l. rw (c.pop.ensures.places, top.1)
    (sym (turn_ret s _ regs (lend_in c.args.frames.now h l) (fitting _ c.args.frames.now h l) _ deeper))
