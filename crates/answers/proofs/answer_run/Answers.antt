-- `answers::answer_run` meets its contract. Assumes nothing.
use mathlib.Core.Path.{◌∙◌}
use Rattle.answers.proofs.Replied.{end-number, end-answers, end_kept}
use Rattle.answers.proofs.answer_run.Goals as goal

pub returns-in-Ok : goal.returns-in-Ok
returns-in-Ok c = record {
  number = rw c.in-Ok.is (c.number.ensures ∙ end-number _);
  kept = rw c.in-Ok.is (c.pack_front.ensures ∙ end_kept _ _ _);
  answered = rw (c.in-Ok.is, c.pc.ensures, c.steps.ensures) (end-answers _ _);
}
