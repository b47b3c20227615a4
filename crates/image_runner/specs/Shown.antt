-- What the image runner may print. Definitions only.
use Rattle.std.specs.Prelude.{◌≡◌, ℕ, true, List, ◌⊎◌}
use Rattle.anomaly.specs.Table.{is_refusal}
use Rattle.report.specs.Report.{report_of, refusal_of}
use Rattle.vm.specs.declared.State.{State}
use Rattle.vm.specs.Listed.{Listed}
use Rattle.outcome.specs.Outcome.{summary_of}

-- 'A refusal .. is its number alone in two digits': one of the table
pub record Refuses (text : List ℕ) : Type 0 where
  pub number : ℕ
  pub listed : is_refusal number ≡ true
  pub says : text ≡ refusal_of number

-- the report of a listed end within the budget b, on some state
pub record Reports (b : ℕ) (text : List ℕ) : Type 0 where
  pub end : ℕ
  pub pc : ℕ
  pub steps : ℕ
  pub state : State
  pub listed : Listed b end steps
  pub says : text ≡ report_of (summary_of end pc steps state) state.regs

abbrev pub Shown : ℕ → List ℕ → Type 0
Shown b text = Refuses text ⊎ Reports b text
