-- A start by its tests in turn, and what it leaves. Assumes nothing.
use mathlib.Core.Path.{◌≡◌, refl, ap}
use Prim.Native.Nat.{ℕ, ◌+◌, ◌^◌, ◌≤◌}
use mathlib.Core.Bool.{Bool, true, ◌&&◌}
use mathlib.Core.Option.{Option, none, some}
use mathlib.Core.List.{List}
use native.Mathlib.Omega.{arith}
use lib.ListN.{length, set}
use Rattle.memory.specs.Lists.{over}
use Rattle.memory.proofs.Tests.{both}
use Rattle.gc.specs.declared.Gc.{Gc}
use Rattle.std.specs.Prelude as std
use Rattle.gc.specs.Lent.{page_size, Outcome, outcome, numbers_of, InHeap}
use Rattle.vm.specs.declared.State.{State}
use Rattle.program.specs.Image.{Image, test, image_ok, image_tests, failing}
use Rattle.vm.specs.Machine.{Lent, unlent, Machine, lend_begin, keep_depth, keep_gc, done, refused, traced, with_pages, with_frames, unset, frames_ok, heap_ok, first_memory}
use Rattle.vm.specs.Machine.{blank, begin, starts, buffers_ok, start}
use Rattle.vm.specs.Told.{machine_of, started_on}
use Rattle.program.proofs.Tests.{failing-cons}
use Rattle.vm.proofs.Buffers.{frames_room, heap_room, heap-low}
use Rattle.vm.proofs.Replies.{over_first}
use Rattle.vm.proofs.Boxes.{bare}

-- ---- the first box granted, and frame 0

-- a blank state has no page
pub no_page : (base : ℕ) (s : State) → ((l : Lent) → machine_of s l ≡ blank base l) → s.gc ≡ bare base
unfolding blank
no_page base s h = ap (λ (m : Machine). m.state.gc) (h unlent)

pub bare-in_heap : (base : ℕ) (heap : List ℕ) → base + length heap ≤ 2 ^ 48 → InHeap (bare base) heap
bare-in_heap base heap low = record { low = low; in_heap = omega arith; in_pages = omega arith }

module _ (base : ℕ) (l : Lent) (r : std.Option ℕ) (g : Gc) (x : List ℕ)
    (e : outcome r g x ≡ outcome (std.Some (base + 16)) (numbers_of (first_memory base).pages) (over (first_memory base).pages.bytes l.heap)) where
  pub begun_with : (s : State) → ((l : Lent) → machine_of s l ≡ blank base l)
      → machine_of (keep_gc g (keep_depth 1 s)) (lend_begin (set l.frames 0 unset) x l) ≡ begin base l
  unfolding begin with_frames with_pages blank traced
  begun_with s h =
      let n = ap (λ (o : Outcome). o.numbers) e in
      let b : s ≡ (blank base l).state = ap (λ (m : Machine). m.state) (h l) in
      rw (b, n, ap (λ (o : Outcome). o.heap) e, over_first) refl

-- ---- the tests

-- buffers that have their sizes: the image decides
pub sized : {o : Option ℕ} (im : Image) (lent : Bool) → lent ≡ true → failing (image_tests true im) ≡ o → failing (image_tests lent im) ≡ o
sized im lent e p = rw e p

module _ (im : Image) (base : ℕ) (l : Lent) where
  pub start-refused : (k r : ℕ) (m : Machine) → failing (image_tests (buffers_ok base l) im) ≡ some k → r ≡ k → m ≡ blank base l
      → record { answer = refused r; machine = m } ≡ started_on (start im base l) base l
  unfolding start starts started_on
  start-refused k r m f e b = rw (f, starts, started_on, e, b) refl

  module _ (f : failing (image_tests (buffers_ok base l) im) ≡ none) where
    pub start-begun : (m : Machine) → m ≡ begin base l → record { answer = done; machine = m } ≡ started_on (start im base l) base l
    unfolding start starts started_on
    start-begun m b = rw (f, starts, started_on, b) refl

    buffers_fine : buffers_ok base l ≡ true
    unfolding image_tests
    buffers_fine = (both (buffers_ok base l) (image_ok im) (failing-cons (test (buffers_ok base l && image_ok im) 10) _ f).0).0

    pub start_room : (1 ≤ length l.frames) × ((base + length l.heap ≤ 2 ^ 48) × (page_size ≤ length l.heap))
    start_room =
        let b = both (frames_ok (length l.frames)) _ buffers_fine in
        let h = (both (heap_ok base (length l.heap)) _ b.1).0 in
        (frames_room _ b.0, (heap-low base _ h, heap_room base _ h))
