-- `vm::lent::frames_belong` meets its contract. Assumes nothing.
use mathlib.Core.Path.{◌∙◌}
use Rattle.vm.proofs.Buffers.{belong_deep, belong_empty, belong_idle, belong_below}
use Rattle.vm.proofs.lent.frames_belong.Goals as goal

pub returns-then-frames-depth : goal.returns-then-frames-depth
returns-then-frames-depth c = λ s l d f. belong_deep s l _ (rw (d, f) c.if-frames-depth.true)

pub returns-then-words-eq0 : goal.returns-then-words-eq0
returns-then-words-eq0 c = λ s l d f. rw c.if-words-eq0.true (belong_empty s l (rw (d, f) c.if-frames-depth.false))

pub returns-then-depth-eq0 : goal.returns-then-depth-eq0
returns-then-depth-eq0 c = λ s l d f. belong_idle s l (rw (d, f) c.if-frames-depth.false) _ (d ∙ c.if-depth-eq0.true)

pub returns : goal.returns
returns c =
    λ s l d f. c.below.ensures ∙ rw (← f) (belong_below s l (rw (d, f) c.if-frames-depth.false) _ _ c.if-words-eq0.false c.if-depth-eq0.false d)
