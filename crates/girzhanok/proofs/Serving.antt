-- What each call of the library comes to: too few words, or the machine's call. Assumes nothing.
use mathlib.Core.Path.{◌≡◌, refl, sym, ap, ◌∙◌}
use Prim.Native.Nat.{ℕ, ◌≤◌, ◌<◌}
use mathlib.Core.Option.{Option, none, some}
use mathlib.Core.List.{List, [], ◌++◌}
use native.Mathlib.Omega.{arith}
use lib.ListN.{length, take, drop, length-replicate}
use lib.Seq.{length-take-le}
use Rattle.std.specs.Array.{IsFirstChunk}
use Rattle.std.proofs.lemmas.List.{get_or-take, take-take, take-append-drop}
use Rattle.memory.specs.Lists.{over}
use lib.Dec.{leb}
use borrow.Author.Tests.{le-leb, lt-leb}
use Rattle.program.specs.Image.{Image, failing}
use Rattle.vm.specs.declared.State.{State}
use Rattle.vm.specs.Machine.{Lent, Machine, Call, setting, Setting, Answer, ended, value, done, refused, Called, tests, act, tried, perform, Started, declined, begun, start, starts, begin, blank, with_frames, with_pages}
use Rattle.vm.specs.Told.{machine_of, started_on}
use Rattle.vm.proofs.Ends.{refusal_changes_nothing}
use Rattle.vm.proofs.Registers.{call_same}
use Rattle.answers.specs.Words.{state_words, packed, unpacked}
use Rattle.answers.specs.Answered.{number_of, answered, kept}
use Rattle.answers.proofs.Packing.{over_whole, length-packed, over_packed, registers}
use Rattle.girzhanok.specs.Served.{served_of, left, within, serve, serve_start}

-- ---- the first forty words, lent as an array, and the words behind them

unpacked-front : (words : List ℕ) → unpacked (take state_words words) ≡ unpacked words
unfolding unpacked
unpacked-front words =
    rw (
      take-take 32 40 words (omega arith),
      get_or-take 40 words 32 0 (omega arith),
      get_or-take 40 words 33 0 (omega arith),
      get_or-take 40 words 34 0 (omega arith),
      get_or-take 40 words 35 0 (omega arith),
      get_or-take 40 words 36 0 (omega arith),
      get_or-take 40 words 37 0 (omega arith),
      get_or-take 40 words 38 0 (omega arith),
      get_or-take 40 words 39 0 (omega arith),
    ) refl

module _ (s : State) (words : List ℕ) (room : state_words ≤ length words) (regs : length s.regs ≡ 32) where
  over-front : over (packed s) (take state_words words) ++ drop state_words words ≡ over (packed s) words
  over-front =
      rw (over_whole (packed s) (take state_words words) (length-packed s regs ∙ sym (length-take-le state_words words room)))
      (sym (over_packed s words regs room))

  pub kept-front : (a : Answer) → kept a s (take state_words words) ++ drop state_words words ≡ kept a s words
  kept-front (ended e pc steps) = over-front
  kept-front (value v) = over-front
  kept-front done = over-front
  kept-front (refused e) = take-append-drop state_words words

-- what a call on those words comes to
module _ (words old : List ℕ) (l : Lent) (room : state_words ≤ length words) (c d : Called) (same : c ≡ d) (regs : length d.machine.state.regs ≡ 32) where
  served_within : (r : ℕ) (w v : List ℕ) → r ≡ number_of c.answer → w ≡ kept c.answer c.machine.state (take state_words words) → v ≡ answered c.answer old
      → served_of r (w ++ drop state_words words) v c.machine.lent ≡ within (leb state_words (length words)) words old l d
  unfolding within left
  served_within r w v number stored told =
      rw (number, stored, told, same, le-leb state_words (length words) room, within, kept-front d.machine.state words room regs d.answer) refl

module _ (k : Call) (words old : List ℕ) (l : Lent) where
  pub too_short : length words < state_words → served_of 10 words old l ≡ serve k words old l
  unfolding serve within
  too_short h = rw (lt-leb state_words (length words) h, within) refl

  -- a call c on the state s that the first words hold
  pub served : (front : List ℕ) → IsFirstChunk words front state_words → (s : State) → s ≡ unpacked front
      → (c : Called) → c ≡ perform k (machine_of s l) → (r : ℕ) (w v : List ℕ)
      → r ≡ number_of c.answer → w ≡ kept c.answer c.machine.state front → v ≡ answered c.answer old
      → served_of r (w ++ drop state_words words) v c.machine.lent ≡ serve k words old l
  unfolding serve
  served front f s is c e r w v number stored told =
      let m = machine_of (unpacked words) l in
      let state : s ≡ unpacked words = rw is (ap unpacked f.same ∙ unpacked-front words) in
      served_within words old l f.enough c (perform k m) (rw state at e) (call_same m k ∙ registers words f.enough) r w v number
      (rw f.same at stored) told

-- calls on the state and frame 0 alone answer no value
quiet_case : (o : Option ℕ) (k : Setting) (m : Machine) → [] ≡ answered (tried o (setting k) m).answer []
unfolding tried act
quiet_case none k m = refl
quiet_case (some e) k m = refl

pub quiet : (k : Setting) (m : Machine) (c : Called) → c ≡ perform (setting k) m → [] ≡ answered c.answer []
unfolding perform
quiet k m c e = rw e (quiet_case (failing (tests (setting k) m.state m.lent)) k m)

-- ---- a start

started_quiet : (x : Started) (base : ℕ) (l : Lent) → [] ≡ answered (started_on x base l).answer []
unfolding started_on
started_quiet (declined e) base l = refl
started_quiet (begun m) base l = refl

begun-regs : (o : Option ℕ) (base : ℕ) (l : Lent) → length (started_on (starts o base l) base l).machine.state.regs ≡ 32
unfolding started_on starts begin with_frames with_pages blank
begun-regs none base l = length-replicate {A = ℕ} 32 0
begun-regs (some e) base l = length-replicate {A = ℕ} 32 0

module _ (im : Image) (base : ℕ) (words : List ℕ) (l : Lent) where
  pub start-short : length words < state_words → served_of 10 words [] l ≡ serve_start im base words l
  unfolding serve_start within
  start-short h = rw (lt-leb state_words (length words) h, within) refl

  pub start_served : (front : List ℕ) → IsFirstChunk words front state_words → (c : Called) → c ≡ started_on (start im base l) base l
      → (r : ℕ) (w : List ℕ) → r ≡ number_of c.answer → w ≡ kept c.answer c.machine.state front
      → served_of r (w ++ drop state_words words) [] c.machine.lent ≡ serve_start im base words l
  unfolding serve_start start
  start_served front f c e r w number stored =
      let d = started_on (start im base l) base l in
      served_within words [] l f.enough c d e (begun-regs _ base l) r w [] number (rw f.same at stored) (rw e (started_quiet (start im base l) base l))

-- ---- a refused call: 'unchanged'

pub refusal_writes_nothing : (k : Call) (words old : List ℕ) (l : Lent) (e : ℕ) → state_words ≤ length words
    → (perform k (machine_of (unpacked words) l)).answer ≡ refused e
    → serve k words old l ≡ served_of e words old l
unfolding serve within left
refusal_writes_nothing k words old l e room h =
    rw (le-leb state_words (length words) room, within, h, refusal_changes_nothing k (machine_of (unpacked words) l) e h) refl
