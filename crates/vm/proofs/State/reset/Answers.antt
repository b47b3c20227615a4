-- `vm::State::reset` meets its contract. Assumes nothing.
use mathlib.Core.Path.{sym, ◌∙◌}
use Rattle.vm.specs.Machine.{lend_frames}
use Rattle.vm.proofs.Buffers.{frames_room}
use Rattle.vm.proofs.Replies.{reset-refused, reset-done}
use Rattle.vm.proofs.State.reset.Goals as goal

pub returns-then-not-frames_ok : goal.returns-then-not-frames_ok
returns-then-not-frames_ok c = λ l. reset-refused _ (lend_frames _ l) (sym c.frames_ok.ensures ∙ c.if-not-frames_ok.true)

pub bounds-frames-0 : goal.bounds-frames-0
bounds-frames-0 c = frames_room _ (sym c.frames_ok.ensures ∙ c.if-not-frames_ok.false)

pub returns : goal.returns
returns c = λ l. reset-done _ (lend_frames _ l) (sym c.frames_ok.ensures ∙ c.if-not-frames_ok.false)
