-- What the code answers, in the numbers and values of the definition. Definitions only.
use Rattle.std.specs.Prelude.{ℕ, List, [], Result, Ok, Err}
use Rattle.anomaly.specs.declared.Refusal.{Refusal}
use Rattle.anomaly.specs.declared.End.{End}
use Rattle.anomaly.specs.Table.{number_of_anomaly, number_of_refusal}
use Rattle.str_table.specs.declared.StrTable.{StrTable}
use Rattle.gc.specs.declared.Gc.{Gc}
use Rattle.gc.specs.Pages.{Block}
use Rattle.gc.specs.Lent.{pages_of}
use Rattle.vm.specs.declared.State.{State}
use Rattle.vm.specs.Core.{Memory}
use Rattle.vm.specs.Names.{Given}
use Rattle.vm.specs.Machine.{Lent, Machine, keep_gc, keep_strings, Answer, ended, done, refused, Called, Started, declined, begun, blank}

abbrev pub lent_of : List ℕ → List ℕ → List ℕ → List ℕ → Lent
lent_of frames heap slots spare = record { frames = frames; heap = heap; slots = slots; spare = spare }

abbrev pub machine_of : State → Lent → Machine
machine_of s l = record { state = s; lent = l }

-- what a call answers by what it gives, or by the number of its refusal
abbrev pub answer_by : {T : Type 0} → (T → Answer) → Result T Refusal → Answer
answer_by said (Ok x) = said x
answer_by said (Err why) = refused (number_of_refusal why)

-- a state with the numbers of another heap and table
abbrev pub holding : State → Gc → StrTable → State
holding s g t = keep_gc g (keep_strings t s)

-- an answer with the state, and the buffers after the call
abbrev pub told : Answer → State → Lent → Called
told a s l = record { answer = a; machine = machine_of s l }

-- what was given, as a block of the pages that hold it
abbrev pub block_of : Given → Block
block_of g = record { address = g.value; pages = g.memory.pages }

-- the pages of a lent heap, as all that is looked at
abbrev pub memory_in : Gc → List ℕ → Memory
memory_in g heap = record { pages = pages_of g heap; slots = []; names = 0 }

-- a start as a call: a declined one leaves the buffers as they were, and answers a state that has nothing in use
unfoldable pub started_on : Started → ℕ → Lent → Called
started_on (declined e) base l = record { answer = refused e; machine = blank base l }
started_on (begun m) base l = record { answer = done; machine = m }

-- what the code answers: of a declined start no state, and the blank one stands for it
abbrev pub start_told : Result State Refusal → ℕ → Lent → Called
start_told (Ok s) base l = told done s l
start_told (Err why) base l = record { answer = refused (number_of_refusal why); machine = blank base l }

-- how a run ends that is not refused
unfoldable pub answer_of : End → Answer
answer_of (End.Halt pc steps) = ended 0 pc steps
answer_of (End.Budget pc steps) = ended 5 pc steps
answer_of (End.Stopped why pc steps) = ended (number_of_anomaly why) pc steps
