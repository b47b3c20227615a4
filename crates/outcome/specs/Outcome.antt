-- What is written of a run, or of a reply. Definitions only.
use Rattle.std.specs.Prelude.{ℕ, List, []}
use Rattle.report.specs.declared.Summary.{Summary}
use Rattle.report.specs.Report.{report_of, refusal_of}
use Rattle.vm.specs.declared.State.{State}
use Rattle.vm.specs.Machine.{Answer, ended, value, done, refused, Called}

abbrev pub summary_of : ℕ → ℕ → ℕ → State → Summary
summary_of e pc steps s = record {
  end = e;
  pc = pc;
  steps = steps;
  depth = s.depth;
  pushed = s.gc.pushed;
  len = s.gc.len;
  strings = s.strings.len;
}

-- 'A refusal, of an interning too, is its number alone in two digits'
unfoldable pub reply_text : Answer → List ℕ
reply_text (refused e) = refusal_of e
reply_text (value v) = []
reply_text done = []
reply_text (ended e pc steps) = []

-- of a run: its report, or the number by which it was refused
unfoldable pub run_text : Answer → State → List ℕ
run_text (ended e pc steps) s = report_of (summary_of e pc steps s) s.regs
run_text (refused e) s = refusal_of e
run_text (value v) s = []
run_text done s = []

abbrev pub answer_text : Called → List ℕ
answer_text c = run_text c.answer c.machine.state
