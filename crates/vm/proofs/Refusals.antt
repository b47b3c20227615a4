-- The tests of a call on a machine that holds a core are tests of the core alone. Assumes nothing.
use mathlib.Core.Path.{◌≡◌, refl, ap, ap₂, subst}
use Prim.Native.Nat.{ℕ, ◌≤◌}
use mathlib.Core.Bool.{Bool, true, false, ◌&&◌, ◌||◌, true≢false}
use mathlib.Core.Option.{some}
use mathlib.Core.List.{List, [], ◌∷◌, ◌++◌, append-nil}
use native.Mathlib.Omega.{arith}
use lib.ListN.{length, take}
use lib.Dec.{leb, eqb, lit≤}
use borrow.Author.Tests.{le-leb, ne_eqb}
use Rattle.str_table.specs.Sound as Table
use Rattle.gc.specs.declared.Gc.{Gc}
use Rattle.gc.specs.Lent.{numbers_of}
use Rattle.gc.specs.Lent as Heap
use Rattle.std.specs.Prelude.{Ok, Err}
use Rattle.anomaly.specs.Table.{number_of_refusal}
use Rattle.op.specs.declared.Counts.{Counts}
use Rattle.op.specs.Reach.{Checked, check_of}
use Rattle.op.proofs.Sound.{check_refuses}
use Rattle.vm.specs.declared.State.{State}
use Rattle.vm.specs.Core.{Core, Memory, Sizes, used}
use Rattle.program.specs.Image.{Image, Test, image_ok, word_test, word_tests, counts, image_tests, failing}
use Rattle.vm.specs.Machine.{Machine, sizes, memory_of, view, reset, put_pc, put_reg, allocate, option, intern, intern_small, Call}
use Rattle.vm.specs.Machine.{state_of, run, setting, host, frames_ok, heap_ok, slots_ok, returns_ok, frames_belong, pages_belong, names_belong, Found, tests_by, tests}
use Rattle.vm.specs.Core.{◌⊑◌, spent}
use Rattle.memory.proofs.Tests.{both}
use Rattle.vm.proofs.Fits.{fits_of, Each, each_append, failing_each}
use Rattle.vm.proofs.Holds.{Holds}

-- ---- the clauses of 9, on the parts in use

unfoldable pub pages_on : Memory → Bool
pages_on l = Heap.sound_of (numbers_of l.pages) (length l.pages.bytes)

unfoldable pub table_on : Memory → Bool
table_on l =
    (leb (length l.slots) (length l.slots) && (eqb (length l.slots) 0 || Table.slot_count (length l.slots)))
    && Table.slots_ok l.pages.base (length l.pages.bytes) l.names l.slots

-- pages that are within the lent heap are sound as in a heap of their own
sound-lent : (g : Gc) (lent : ℕ) → g.pushed ≤ lent → Heap.sound_of g lent ≡ Heap.sound_of g g.pushed
unfolding Heap.sound_of
sound-lent g lent h = rw (le-leb g.pushed lent h, le-leb g.pushed g.pushed (omega arith)) refl

module _ (n : Sizes) (c : Core) (m : Machine) (h : Holds n c m) where
  fit : used c ⊑ n
  fit = fits_of n (used c) h.fits

  gc_is : m.state.gc ≡ numbers_of c.memory.pages
  unfolding state_of
  gc_is = ap (λ (s : State). s.gc) h.state

  depth_fits : leb m.state.depth (length m.lent.frames) ≡ true
  unfolding sizes used state_of
  depth_fits =
      let e : length m.lent.frames ≡ n.frames = ap (λ (z : Sizes). z.frames) h.lent in
      let k = fit.frames in
      let d : m.state.depth ≡ length c.frames = ap (λ (s : State). s.depth) h.state in
      le-leb m.state.depth (length m.lent.frames) (omega arith)

  frames_are : take m.state.depth m.lent.frames ≡ c.frames
  unfolding view
  frames_are = ap (λ (d : Core). d.frames) h.core

  pub frames-same : (k : ℕ) → frames_belong k m.state m.lent ≡ returns_ok k c.frames
  unfolding frames_belong
  frames-same k = rw (depth_fits, frames_are) refl

  pages-same : pages_belong m.state m.lent ≡ pages_on c.memory
  unfolding pages_belong pages_on sizes used numbers_of
  pages-same =
      let e : length m.lent.heap ≡ n.heap = ap (λ (z : Sizes). z.heap) h.lent in
      let k = fit.heap in
      rw gc_is (sound-lent _ _ (omega arith))

  slots_are : take m.state.strings.active m.lent.slots ≡ c.memory.slots
  unfolding view memory_of
  slots_are = ap (λ (d : Core). d.memory.slots) h.core

  active-is : m.state.strings.active ≡ length c.memory.slots
  unfolding state_of
  active-is = ap (λ (s : State). s.strings.active) h.state

  len_is : m.state.strings.len ≡ c.memory.names
  unfolding state_of
  len_is = ap (λ (s : State). s.strings.len) h.state

  table_same : Table.sound_of m.state.gc.base m.state.gc.pushed m.state.strings m.lent.slots ≡ table_on c.memory
  unfolding Table.sound_of Table.active_ok table_on sizes used numbers_of
  table_same =
      let e : length m.lent.slots ≡ n.slots = ap (λ (z : Sizes). z.slots) h.lent in
      let k = fit.slots in
      let within : leb (length c.memory.slots) (length m.lent.slots)
      ≡ true = le-leb (length c.memory.slots) (length m.lent.slots) (omega arith) in
      let self : leb (length c.memory.slots) (length c.memory.slots)
      ≡ true = le-leb (length c.memory.slots) (length c.memory.slots) (omega arith) in
      rw (slots_are, gc_is, active-is, len_is, within, self) refl

  names_same : names_belong m.state m.lent ≡ (pages_on c.memory && table_on c.memory)
  unfolding names_belong
  names_same = ap₂ ◌&&◌ pages-same table_same

  legal_frames : frames_ok (length m.lent.frames) ≡ true
  legal_frames = (both _ _ h.legal).0

  legal_heap : heap_ok m.state.gc.base (length m.lent.heap) ≡ true
  unfolding numbers_of
  legal_heap = rw gc_is (both _ _ (both (frames_ok (length m.lent.frames)) _ h.legal).1).0

  legal_slots : slots_ok (length m.lent.slots) (length m.lent.spare) ≡ true
  legal_slots = (both (heap_ok c.memory.pages.base (length m.lent.heap)) _ (both (frames_ok (length m.lent.frames)) _ h.legal).1).1

-- ---- all tests of a call

-- what a call finds on a machine that holds a core
abbrev pub found_on : Core → Found
found_on c = record {
  frames_fit = true;
  heap-fits = true;
  slots_fit = true;
  frames = λ n. returns_ok n c.frames;
  pages = pages_on c.memory;
  names = pages_on c.memory && table_on c.memory;
}

unfoldable pub tests_on : Call → Core → List Test
tests_on k c = tests_by k (found_on c)

pub tests_are : (n : Sizes) (k : Call) (c : Core) (m : Machine) → Holds n c m → tests k m.state m.lent ≡ tests_on k c
unfolding tests tests_by tests_on
tests_are n (run im b) c m h = rw (legal_frames n c m h, legal_heap n c m h, frames-same n c m h, pages-same n c m h) refl
tests_are n (setting reset) c m h = rw (legal_frames n c m h) refl
tests_are n (setting (put_pc p)) c m h = refl
tests_are n (setting (put_reg r v)) c m h = refl
tests_are n (host (allocate kind align z)) c m h = rw (legal_heap n c m h, pages-same n c m h) refl
tests_are n (host (option o)) c m h = rw (legal_heap n c m h, pages-same n c m h) refl
tests_are n (host (intern s)) c m h = rw (legal_heap n c m h, legal_slots n c m h, names_same n c m h) refl
tests_are n (host (intern_small z w)) c m h = rw (legal_heap n c m h, legal_slots n c m h, names_same n c m h) refl

-- ---- the tests of an image: 10, 11, 16, and 12 to 15 for a word; then those that follow in a run

module _ (P : ℕ → Type 0) (word : (k : ℕ) → (12 ≤ k) × (k ≤ 15) → P k) where
  word_each : (n : Counts) (w : ℕ) (x : Checked) → check_of n w ≡ x → (word_test x).passes ≡ false → P (word_test x).number
  unfolding word_test
  word_each n w (Ok u) e h = absurd (true≢false h)
  word_each n w (Err why) e h = word (number_of_refusal why) (check_refuses n w why e)

  words_each : (n : Counts) (ws : List ℕ) → Each P (word_tests n ws)
  unfolding word_tests
  words_each n [] = tt
  words_each n (w ∷ ws) = (word_each n w (check_of n w) refl, words_each n ws)

  pub image_each : (lent : Bool) (im : Image) (rest : List Test) → ((lent && image_ok im) ≡ false → P 10) → P 11 → P 16 → Each P rest
      → Each P (image_tests lent im ++ rest)
  unfolding image_tests
  image_each lent im rest ten eleven sixteen h =
      (ten, (λ _. eleven, (λ _. sixteen, each_append P (word_tests (counts im) im.code) rest (words_each (counts im) im.code) h)))

-- ---- a test that fails refuses with a number from 9 to 17, and none of these is one of running out

abbrev pub Refusing : ℕ → Type 0
Refusing k = (9 ≤ k) × (k ≤ 17)

abbrev pub Numbered : List Test → Type 0
Numbered ts = Each Refusing ts

pub image_numbered : (lent : Bool) (im : Image) (rest : List Test) → Numbered rest → Numbered (image_tests lent im ++ rest)
image_numbered lent im rest h =
    image_each Refusing (λ k r. (omega arith, omega arith)) lent im rest (λ _. (lit≤ tt, lit≤ tt)) (lit≤ tt, lit≤ tt) (lit≤ tt, lit≤ tt) h

pub image_alone : (lent : Bool) (im : Image) → Numbered (image_tests lent im)
image_alone lent im = subst Numbered (append-nil (image_tests lent im)) (image_numbered lent im [] tt)

pub call_numbered : (k : Call) (f : Found) → Numbered (tests_by k f)
unfolding tests_by
call_numbered (run im b) f = image_numbered _ im _ (λ _. (lit≤ tt, lit≤ tt), tt)
call_numbered (setting reset) f = (λ _. (lit≤ tt, lit≤ tt), tt)
call_numbered (setting (put_pc p)) f = tt
call_numbered (setting (put_reg r v)) f = (λ _. (lit≤ tt, lit≤ tt), tt)
call_numbered (host (allocate kind align n)) f = (λ _. (lit≤ tt, lit≤ tt), (λ _. (lit≤ tt, lit≤ tt), (λ _. (lit≤ tt, lit≤ tt), tt)))
call_numbered (host (option o)) f = (λ _. (lit≤ tt, lit≤ tt), (λ _. (lit≤ tt, lit≤ tt), tt))
call_numbered (host (intern n)) f = (λ _. (lit≤ tt, lit≤ tt), (λ _. (lit≤ tt, lit≤ tt), tt))
call_numbered (host (intern_small n w)) f = (λ _. (lit≤ tt, lit≤ tt), (λ _. (lit≤ tt, lit≤ tt), (λ _. (lit≤ tt, lit≤ tt), tt)))

pub failing_numbered : (ts : List Test) (k : ℕ) → Numbered ts → failing ts ≡ some k → Refusing k
failing_numbered ts k u e = failing_each Refusing ts k u e

pub numbered_unspent : (k : ℕ) → Refusing k → spent k ≡ false
unfolding spent
numbered_unspent k h = rw (
  ne_eqb k 2 (λ e. omega arith),
  ne_eqb k 3 (λ e. omega arith),
  ne_eqb k 5 (λ e. omega arith),
  ne_eqb k 18 (λ e. omega arith),
) refl

pub run_unspent : (im : Image) (b : ℕ) (c : Core) (k : ℕ) → failing (tests_on (run im b) c) ≡ some k → spent k ≡ false
unfolding tests_on tests_by
run_unspent im b c k f = numbered_unspent k (failing_numbered _ k (image_numbered true im _ (λ _. (lit≤ tt, lit≤ tt), tt)) f)
