-- What a call leaves in the words is the state that the next call finds. Assumes nothing.
use mathlib.Core.Path.{◌≡◌, refl, sym, ap, ◌∙◌}
use Prim.Native.Nat.{ℕ, ◌≤◌}
use mathlib.Core.Option.{Option, none, some}
use mathlib.Core.List.{List}
use native.Mathlib.Omega.{arith}
use lib.ListN.{length, length-replicate}
use borrow.Author.Tests.{le-leb}
use Rattle.program.specs.Image.{Image}
use Rattle.vm.specs.declared.State.{State}
use Rattle.vm.specs.Machine.{Lent, Machine, with_pages, with_frames, Call, ended, value, done, refused, Answer, perform, begun, start, starts}
use Rattle.vm.specs.Machine.{begin, blank}
use Rattle.vm.specs.Told.{machine_of, started_on}
use Rattle.vm.proofs.Ends.{refusal_changes_nothing}
use Rattle.vm.proofs.Registers.{call_same}
use Rattle.answers.specs.Words.{state_words, unpacked}
use Rattle.answers.specs.Answered.{kept}
use Rattle.girzhanok.specs.Served.{left, within, serve, serve_start}
use Rattle.answers.proofs.Packing.{registers, unpack_pack}

-- ---- words

-- what is kept of a call on the state that the words hold
kept_case : (a : Answer) (s : State) (words : List ℕ) → state_words ≤ length words → length s.regs ≡ 32
    → ((e : ℕ) → a ≡ refused e → s ≡ unpacked words)
    → unpacked (kept a s words) ≡ s
kept_case (ended e pc steps) s words room long same = unpack_pack s words long room
kept_case (value v) s words room long same = unpack_pack s words long room
kept_case done s words room long same = unpack_pack s words long room
kept_case (refused e) s words room long same = sym (same e refl)

pub carried : (k : Call) (words old : List ℕ) (l : Lent) → state_words ≤ length words
    → unpacked (serve k words old l).words ≡ (perform k (machine_of (unpacked words) l)).machine.state
unfolding serve within left
carried k words old l room =
    let m = machine_of (unpacked words) l in
    let c = perform k m in
    let here : length (unpacked words).regs ≡ 32 = registers words room in
    rw (le-leb state_words (length words) room, within)
    (kept_case c.answer c.machine.state words room (call_same m k ∙ here)
    (λ e h. ap (λ (n : Machine). n.state) (refusal_changes_nothing k m e h)))

-- a start that is not refused
begun-regs : (base : ℕ) (l : Lent) → length (begin base l).state.regs ≡ 32
unfolding begin with_frames with_pages blank
begun-regs base l = length-replicate {A = ℕ} 32 0

begun_case : (o : Option ℕ) (base : ℕ) (l : Lent) (m : Machine) → starts o base l ≡ begun m → length m.state.regs ≡ 32
unfolding starts
begun_case none base l m h = let is : begin base l ≡ m = cc in rw is at (begun-regs base l)
begun_case (some e) base l m h = let never : ◌≡◌ {A = ℕ} 0 1 = cc in absurd (omega arith)

pub start_carried : (im : Image) (base : ℕ) (words : List ℕ) (l : Lent) → state_words ≤ length words → (m : Machine) → start im base l ≡ begun m
    → unpacked (serve_start im base words l).words ≡ m.state
unfolding serve_start within left started_on start
start_carried im base words l room m h = rw (le-leb state_words (length words) room, within, h)
    (unpack_pack m.state words (begun_case _ base l m h) room)
