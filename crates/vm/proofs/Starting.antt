-- A start leaves a machine that holds the same core, whatever was lent, and its image passes its own tests. Assumes nothing.
use mathlib.Core.Path.{◌≡◌, refl}
use Prim.Native.Nat.{ℕ, ◌≤◌}
use mathlib.Core.Bool.{true, ◌&&◌}
use mathlib.Core.Option.{Option, none, some}
use mathlib.Core.List.{[], ◌∷◌}
use lib.ListN.{length, replicate}
use Rattle.memory.proofs.Over.{length-write}
use Rattle.memory.proofs.Tests.{both}
use Rattle.gc.specs.Pages.{gap_of, holds, block, fitted, allocated}
use Rattle.gc.specs.Lent.{page_size, pages_of, numbers_of}
use Rattle.vm.specs.Core.{Core, used, set_frames, set_memory, set_pages, set_bytes}
use Rattle.program.specs.Image.{Image, test, image_ok, image_tests, failing}
use Rattle.vm.specs.Names.{boxed, filled}
use Rattle.vm.specs.Machine.{Lent, Machine, sizes, memory_of, view, state_of, frames_ok, heap_ok, unset, first_page, first_memory, blank, begin}
use Rattle.vm.specs.Machine.{starts, buffers_ok, start, begun}
use Rattle.vm.proofs.Fits.{view-fits}
use Rattle.vm.proofs.Kept.{boxed-kept}
use Rattle.vm.proofs.Holds.{Holds, holds-pages, holds-frames}
use Rattle.program.proofs.Tests.{failing-cons}
use Rattle.vm.proofs.Buffers.{frames_room, heap_room}

starts_none : (o : Option ℕ) (base : ℕ) (l : Lent) (m : Machine) → starts o base l ≡ begun m → (o ≡ none) × (begin base l ≡ m)
unfolding starts
starts_none none base l m h = (refl, cc)
starts_none (some e) base l m h = (cc, cc)

-- ---- a machine with nothing in use

unfoldable pub empty : ℕ → Core
empty base = record {
  regs = replicate 32 0;
  pc = 0;
  frames = [];
  memory = record { pages = record { base = base; bytes = []; last = 0; len = 0 }; slots = []; names = 0 };
}

blank-holds : (base : ℕ) (l : Lent) → buffers_ok base l ≡ true → Holds (sizes l) (empty base) (blank base l)
unfolding empty blank view memory_of pages_of state_of numbers_of used
blank-holds base l legal =
    record { lent = refl; legal = legal; core = refl; state = refl; fits = view-fits (blank base l) (empty base) refl }

-- ---- page 0 and frame 0

first_base : (base : ℕ) → (first_memory base).pages.base ≡ base
unfolding first_memory first_page
first_base base = (boxed-kept 0 0 (first_page base)).base

pub first_length : (base : ℕ) → length (first_memory base).pages.bytes ≡ page_size
unfolding first_memory first_page boxed filled set_pages set_bytes allocated fitted holds block gap_of
first_length base = rw (length-write, length-write) refl

-- the core that a start leaves, whatever was lent
unfoldable pub first : ℕ → Core
first base = set_frames (unset ∷ []) (set_memory (set_pages (first_memory base).pages (empty base).memory) (empty base))

begin-holds : (base : ℕ) (l : Lent) → buffers_ok base l ≡ true → Holds (sizes l) (first base) (begin base l)
unfolding begin first sizes
begin-holds base l legal =
    let n = sizes l in
    let p = (first_memory base).pages in
    let heap = (both (heap_ok base (length l.heap)) _ (both (frames_ok (length l.frames)) _ legal).1).0 in
    let pages = holds-pages n (empty base) (blank base l) (blank-holds base l legal) p (unfold empty in first_base base)
    (rw first_length (heap_room base _ heap)) in
    holds-frames n _ _ pages [] (unset ∷ []) (frames_room _ (both (frames_ok (length l.frames)) _ legal).0)

-- a start that is not refused
pub record Begun (base : ℕ) (l : Lent) (m : Machine) : Type 0 where
  pub room : 1 ≤ (sizes l).frames
  pub holds : Holds (sizes l) (first base) m

pub start-holds : (im : Image) (base : ℕ) (l : Lent) (m : Machine) → start im base l ≡ begun m → Begun base l m
unfolding start image_tests sizes
start-holds im base l m e =
    let q = starts_none _ base l m e in
    let lent = (both (buffers_ok base l) _ (failing-cons (test (buffers_ok base l && image_ok im) 10) _ q.0).0).0 in
    record { room = frames_room _ (both (frames_ok (length l.frames)) _ lent).0; holds = rw q.1 at (begin-holds base l lent) }

-- the image of a start passes its own tests
pub start-passes : (im : Image) (base : ℕ) (l : Lent) (m : Machine) → start im base l ≡ begun m → failing (image_tests true im) ≡ none
unfolding start image_tests
start-passes im base l m e =
    let q = starts_none _ base l m e in
    let lent = (both (buffers_ok base l) _ (failing-cons (test (buffers_ok base l && image_ok im) 10) _ q.0).0).0 in
    rw lent at q.0
