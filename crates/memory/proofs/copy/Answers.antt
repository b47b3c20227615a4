-- `memory::copy` meets its contract. Assumes nothing.
use mathlib.Core.Path.{refl, ap, ◌∙◌}
use lib.ListN.{set}
use Rattle.memory.specs.Lists.{over}
use Rattle.memory.proofs.Over.{over-read}
use Rattle.memory.proofs.copy.Goals as goal

pub loop-i-init : goal.loop-i-init
unfolding over
loop-i-init g c = refl

pub loop-i-preserved : goal.loop-i-preserved
loop-i-preserved g c =
    let x = c.index-from-i in
    ap (λ l. set l c.loop-i.i x.result) c.loop-i.invariant
    ∙ over-read c.args.from.now c.args.to.now c.loop-i.i x.result c.loop-i-test.true c.requires x.is
