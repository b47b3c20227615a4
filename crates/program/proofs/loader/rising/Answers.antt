-- `program::loader::rising` meets its contract. Assumes nothing.
use Rattle.std.proofs.Common.{refl}
use Rattle.program.proofs.Images.{rising_fails, rising-on, rising-end}
use Rattle.program.proofs.loader.rising.Goals as goal

pub loop-end-init : goal.loop-end-init
loop-end-init c = refl

pub returns-then-end-from : goal.returns-then-end-from
returns-then-end-from c = rising_fails _ _ _ _ _ c.loop-end.invariant c.loop-end-test.true c.if-end-from.true

pub loop-end-preserved : goal.loop-end-preserved
loop-end-preserved c = rising-on _ _ _ _ _ c.loop-end.invariant c.loop-end-test.true c.if-end-from.false

pub returns : goal.returns
returns c = rising-end _ _ _ _ _ c.loop-end.invariant c.loop-end-test.false
