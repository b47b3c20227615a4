-- What a call of the library returns and leaves: the machine's call on the state that the words hold. Definitions only.
use Rattle.std.specs.Prelude.{ℕ, Bool, true, false, List, [], length, leb}
use Rattle.program.specs.Image.{Image}
use Rattle.vm.specs.Machine.{Lent, Call, Called, perform, start}
use Rattle.vm.specs.Told.{machine_of, started_on}
use Rattle.answers.specs.Words.{state_words, unpacked}
use Rattle.answers.specs.Answered.{number_of, answered, kept}

-- the number returned, the words of the state, what is answered beside the number, and the lent buffers
pub record Served : Type 0 where
  pub number : ℕ
  pub words : List ℕ
  pub answers : List ℕ
  pub lent : Lent

abbrev pub served_of : ℕ → List ℕ → List ℕ → Lent → Served
served_of number words answers lent = record { number = number; words = words; answers = answers; lent = lent }

-- a machine's call, as the library serves it
unfoldable pub left : List ℕ → List ℕ → Called → Served
left words old c = served_of (number_of c.answer) (kept c.answer c.machine.state words) (answered c.answer old) c.machine.lent

-- 10, before all else: fewer words than a state has
unfoldable pub within : Bool → List ℕ → List ℕ → Lent → Called → Served
within true words old l c = left words old c
within false words old l c = served_of 10 words old l

unfoldable pub serve : Call → List ℕ → List ℕ → Lent → Served
serve k words old l = within (leb state_words (length words)) words old l (perform k (machine_of (unpacked words) l))

unfoldable pub serve_start : Image → ℕ → List ℕ → Lent → Served
serve_start im base words l = within (leb state_words (length words)) words [] l (started_on (start im base l) base l)
