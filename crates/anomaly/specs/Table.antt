-- Document 01, 'Ends and numbers': the number of each end and refusal, and what is returned with it. Definitions only.
use Rattle.std.specs.Prelude.{ℕ, Bool, false, ◌≡◌, ◌&&◌, ◌||◌, eqb, leb, Result, MatchResult}
use Rattle.anomaly.specs.declared.Unlisted.{Unlisted}
use Rattle.anomaly.specs.declared.Anomaly.{Anomaly}
use Rattle.anomaly.specs.declared.Anomaly.TheVariants.{DivisionByZero, AllocationFailed, StackOverflow, AssertionFailed, BadAddress}
use Rattle.anomaly.specs.declared.Anomaly.TheVariants.{QuotientOverflow, FrameUnderflow}
use Rattle.anomaly.specs.declared.Refusal.{Refusal}
use Rattle.anomaly.specs.declared.Refusal.TheVariants.{Memory, State, Size, NoHalt, Opcode, Operand, Target, Index, TableTarget}
use Rattle.anomaly.specs.declared.Refusal.TheVariants.{SmallString, TableFull, Text}
use Rattle.anomaly.specs.declared.End.{End}
use Rattle.anomaly.specs.declared.End.TheVariants.{Halt, Budget, Stopped}

-- the ends that leave the state from before an instruction: zero divisor, allocation refused, depth equals frames, false Assert,
-- address, quotient overflow, Ret at depth 0
abbrev pub number_of_anomaly : Anomaly → ℕ
number_of_anomaly DivisionByZero = 1
number_of_anomaly AllocationFailed = 2
number_of_anomaly StackOverflow = 3
number_of_anomaly AssertionFailed = 4
number_of_anomaly BadAddress = 6
number_of_anomaly QuotientOverflow = 7
number_of_anomaly FrameUnderflow = 8

-- the numbers of anomalies: 1 to 4 and 6 to 8
abbrev pub is_anomaly : ℕ → Bool
is_anomaly n = (leb 1 n && leb n 4) || (leb 6 n && leb n 8)

-- allocation refused in a host call, and the rows from 9 to 19
abbrev pub number_of_refusal : Refusal → ℕ
number_of_refusal Memory = 2
number_of_refusal State = 9
number_of_refusal Size = 10
number_of_refusal NoHalt = 11
number_of_refusal Opcode = 12
number_of_refusal Operand = 13
number_of_refusal Target = 14
number_of_refusal Index = 15
number_of_refusal TableTarget = 16
number_of_refusal SmallString = 17
number_of_refusal TableFull = 18
number_of_refusal Text = 19

-- the numbers of refusals: 2 and 9 to 19
abbrev pub is_refusal : ℕ → Bool
is_refusal n = eqb n 2 || (leb 9 n && leb n 19)

-- the anomaly, or the refusal, that has this number; or that none has it
abbrev pub NumbersAnomaly : ℕ → Result Anomaly Unlisted → Type 0
NumbersAnomaly n r = MatchResult r (λ why. number_of_anomaly why ≡ n) (λ e. (e.0 ≡ n) × (is_anomaly n ≡ false))

abbrev pub NumbersRefusal : ℕ → Result Refusal Unlisted → Type 0
NumbersRefusal n r = MatchResult r (λ why. number_of_refusal why ≡ n) (λ e. (e.0 ≡ n) × (is_refusal n ≡ false))

-- Halt, or nothing to run, is 0; budget completed, not halted, is 5
abbrev pub number_of_end : End → ℕ
number_of_end (Halt pc steps) = 0
number_of_end (Budget pc steps) = 5
number_of_end (Stopped why pc steps) = number_of_anomaly why

abbrev pub pc_of_end : End → ℕ
pc_of_end (Halt pc steps) = pc
pc_of_end (Budget pc steps) = pc
pc_of_end (Stopped why pc steps) = pc

abbrev pub steps_of_end : End → ℕ
steps_of_end (Halt pc steps) = steps
steps_of_end (Budget pc steps) = steps
steps_of_end (Stopped why pc steps) = steps
