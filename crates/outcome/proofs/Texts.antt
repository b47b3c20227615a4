-- What a run comes to in the text. Assumes nothing.
use mathlib.Core.Path.{◌≡◌, refl}
use Rattle.anomaly.specs.declared.End.{End}
use Rattle.anomaly.specs.Table.{number_of_end, pc_of_end, steps_of_end}
use Rattle.report.specs.Report.{report_of}
use Rattle.vm.specs.declared.State.{State}
use Rattle.vm.specs.Told.{answer_of}
use Rattle.outcome.specs.Outcome.{summary_of, run_text}

pub run_reported : (end : End) (s : State)
    → run_text (answer_of end) s ≡ report_of (summary_of (number_of_end end) (pc_of_end end) (steps_of_end end) s) s.regs
unfolding answer_of run_text
run_reported (End.Halt pc steps) s = refl
run_reported (End.Budget pc steps) s = refl
run_reported (End.Stopped why pc steps) s = refl
