-- A run from its call on: what its tests leave, frame 0, and how the call's answer comes from the loop's. Assumes nothing.
use Rattle.std.proofs.Common.{◌≡◌, ℕ, zero, suc, ◌+◌, ◌-◌, ◌%◌, ◌^◌, ◌<◌, ◌≤◌, Bool, true, false, cond, ◌&&◌, ◌||◌, eqb, ltb, leb, List, [], ◌∷◌, length, take, set, sym, refl, ap, ◌∙◌, zero-add, arith, length-set, le-ltb, lt-ltb, leb-true}
use mathlib.Core.Option.{none, some}
use lib.Seq.{take-set-lt}
use Rattle.memory.proofs.Tests.{both}
use Rattle.gc.specs.Lent.{InHeap}
use Rattle.gc.specs.Lent as Heap
use Rattle.gc.proofs.Soundness as Soundness
use Rattle.anomaly.specs.declared.End.{End}
use Rattle.anomaly.specs.Table.{number_of_end, pc_of_end, steps_of_end}
use Rattle.program.specs.Image.{Image, test, image_tests, failing}
use Rattle.vm.specs.declared.State.{State}
use Rattle.vm.specs.Core.{Core, set_regs, set_pc, set_frames}
use Rattle.vm.specs.Run.{Ran, go, root, entered, stored}
use Rattle.vm.specs.Machine.{Lent, Machine, lend_frames, sizes, memory_of, view, with_pages, traced, with_frames, with_regs, laid, run, Called, ended}
use Rattle.vm.specs.Machine.{ran, idle, runs, run_leaves, run_call, frames_ok, heap_ok, frames_belong, pages_belong, tests_by, tests}
use Rattle.vm.specs.Told.{machine_of, answer_of}
use Rattle.instruction.specs.Turn.{Position, position_of, Fitting}
use Rattle.run.specs.Loop.{Going, Finished, finishes, finished, stored_pc}
use Rattle.program.proofs.Tests.{failing-here, failing_later, failing-first}
use Rattle.vm.proofs.Buffers.{frames_room, heap-low}
use Rattle.vm.proofs.Replies.{over_first}
use Rattle.vm.proofs.Runs.{runs-go, runs_past}
use Rattle.vm.proofs.Inside.{Inside}
use Rattle.vm.proofs.Ends.{all_passed, from_inside}
use Rattle.instruction.proofs.Turns.{laid_same}

-- 'writes frame 0 with (length − 2) modulo 2^64'
pub root_is : (n k : ℕ) → k ≡ n → (k + (2 ^ 64 - 2)) % 2 ^ 64 ≡ root n
unfolding root
root_is n k e = rw e refl

take_first : (d : ℕ) (xs : List ℕ) (v : ℕ) → take d (set xs 0 v) ≡ set (take d xs) 0 v
take_first zero xs v = refl
take_first (suc d) xs v = take-set-lt (suc d) xs 0 v (omega arith)

-- ---- an end as it is answered

pub answer_is : (end : End) → answer_of end ≡ ended (number_of_end end) (pc_of_end end) (steps_of_end end)
unfolding answer_of
answer_is (End.Halt pc steps) = refl
answer_is (End.Budget pc steps) = refl
answer_is (End.Stopped why pc steps) = refl

-- ---- the tests: of the image, then of the state

module _ (im : Image) (b : ℕ) (s : State) (l : Lent) where
  abbrev pub sizes_fine : Bool
  sizes_fine = frames_ok (length l.frames) && heap_ok s.gc.base (length l.heap)

  pub image-refused : (k : ℕ) → failing (image_tests sizes_fine im) ≡ some k → some k ≡ failing (tests (run im b) s l)
  unfolding tests tests_by
  image-refused k f = sym (failing-here (image_tests sizes_fine im) _ k f)

  module _ (f : failing (image_tests sizes_fine im) ≡ none) {p q : Bool}
      (frames-say : (u : State) (k : Lent) → u.depth ≡ s.depth → k.frames ≡ l.frames → p ≡ frames_belong (length im.code) u k)
      (pages-say : q ≡ Heap.sound_of s.gc (length l.heap)) where
    belongs : {t : Bool} → (p && q) ≡ t → failing (test t 9 ∷ []) ≡ failing (tests (run im b) s l)
    unfolding tests tests_by pages_belong
    belongs e = sym (failing_later (image_tests sizes_fine im) _ f ∙ rw (← (frames-say s l refl refl), ← pages-say, e) refl)

    pub state-refused : (p && q) ≡ false → some 9 ≡ failing (tests (run im b) s l)
    unfolding failing
    state-refused e = belongs e

    pub all-pass : (p && q) ≡ true → none ≡ failing (tests (run im b) s l)
    unfolding failing
    all-pass e = belongs e

-- ---- after the tests

module _ (im : Image) (b : ℕ) (s : State) (l : Lent) (passed : failing (tests (run im b) s l) ≡ none) where
  abbrev n : ℕ
  n = length im.code

  abbrev at : Position
  at = position_of s

  abbrev m : Machine
  m = machine_of s l

  abbrev frames : List ℕ
  frames = l.frames

  abbrev heap : List ℕ
  heap = l.heap

  -- with frame 0 written
  abbrev opened : List ℕ
  opened = set frames 0 (root n)

  abbrev m₁ : Machine
  m₁ = machine_of s (lend_frames opened l)

  -- its image passes alone, too
  pub image-passed : failing (image_tests true im) ≡ none
  unfolding tests tests_by
  image-passed = rw (all_passed im b m passed).lent at (failing-first (image_tests _ im) _ passed)

  lent_fine : (frames_ok (length frames) ≡ true) × (heap_ok s.gc.base (length heap) ≡ true)
  lent_fine = both (frames_ok (length frames)) _ (all_passed im b m passed).lent

  pub frame_there : 0 < length frames
  frame_there = frames_room (length frames) lent_fine.0

  deep : s.depth ≤ length frames
  unfolding frames_belong
  deep = leb-true _ _ (both (leb s.depth (length frames)) _ (all_passed im b m passed).frames).0

  sound : InHeap s.gc heap
  unfolding pages_belong
  sound = Soundness.sound s.gc heap (heap-low _ _ lent_fine.1) (all_passed im b m passed).pages

  deep_opened : s.depth ≤ length opened
  deep_opened = rw length-set deep

  view_opened : view m₁ ≡ entered n (view m)
  unfolding view memory_of entered set_frames
  view_opened = rw (take_first s.depth frames (root n)) refl

  sizes_opened : sizes m₁.lent ≡ sizes m.lent
  unfolding sizes
  sizes_opened = rw length-set refl

  -- the core whose frames are frame 0 alone, as the way of a run begins
  abbrev rooted : Core
  rooted = set_frames (root n ∷ []) (view m)

  laid_opened : (trail : List Core) (c : Core) → laid (rooted ∷ trail) c m ≡ laid trail c m₁
  unfolding laid with_regs with_frames with_pages traced set_frames
  laid_opened trail c = rw over_first refl

  fitting_opened : Fitting at (lend_frames opened l)
  fitting_opened = record { deep = deep_opened; sound = sound }

  unchanged : laid [] (view m₁) m₁ ≡ m₁
  unfolding view set_regs set_pc
  unchanged = laid_same s at s.regs (lend_frames opened l) fitting_opened s.regs s.pc

  -- ---- nothing to run

  as_it_was : laid [] (view m) m ≡ m
  unfolding view set_regs set_pc
  as_it_was = laid_same s at s.regs l (record { deep = deep; sound = sound }) s.regs s.pc

  abbrev called : ℕ → Called
  called k = record { answer = (runs (sizes m.lent) im b k (view m)).answer; machine = run_leaves m (runs (sizes m.lent) im b k (view m)) }

  pub run_empty : n ≡ 0 → record { answer = ended 0 s.pc 0; machine = m } ≡ run_call im b m
  unfolding run_call run_leaves view runs
  run_empty e = by n e
    where
      by : (k : ℕ) → k ≡ 0 → ◌≡◌ {A = Called} (record { answer = ended 0 s.pc 0; machine = m }) (called k)
      by zero q = rw as_it_was refl
      by (suc k) q = absurd (omega arith)

  frame_alone : laid (rooted ∷ []) (entered n (view m)) m ≡ m₁
  frame_alone = laid_opened [] (entered n (view m)) ∙ ap (λ (c : Core). laid [] c m₁) (sym view_opened) ∙ unchanged

  beyond : (k : ℕ) → k ≤ s.pc → ltb (view m).pc k ≡ false
  unfolding view
  beyond k h = le-ltb s.pc k h

  idles : ◌≡◌ {A = Called} (record { answer = ended 0 s.pc 0; machine = m₁ })
      (record {
        answer = (ran n (view m) (idle (entered n (view m)))).answer;
        machine = run_leaves m (ran n (view m) (idle (entered n (view m))));
      })
  unfolding run_leaves ran idle stored
  idles = rw frame_alone (unfold entered set_frames view in refl)

  past : 0 < n → n ≤ s.pc → record { answer = ended 0 s.pc 0; machine = m₁ } ≡ run_call im b m
  unfolding run_call
  past words h = by n refl
    where
      by : (k : ℕ) → n ≡ k → ◌≡◌ {A = Called} (record { answer = ended 0 s.pc 0; machine = m₁ }) (called k)
      by zero q = absurd (omega arith)
      by (suc k) q = rw (runs_past (sizes m.lent) im b k (view m) (beyond (suc k) (omega arith)), ← q) idles

  -- ---- the loop

  -- the registers and the stored pc of a run that left this machine
  abbrev pub settled : Finished → Called
  settled x = record {
    answer = ended x.ending x.machine.state.pc x.steps;
    machine = with_regs x.machine.state.regs (stored_pc x.ending s.pc x.machine.state.pc) x.machine;
  }

  laid-stored : (t : Bool) (trail : List Core) (c : Core)
      → laid trail (elim t [ true ↦ c | false ↦ set_pc s.pc c ]) m₁ ≡ with_regs c.regs (cond t c.pc s.pc) (laid trail c m₁)
  unfolding laid with_regs with_frames with_pages set_pc
  laid-stored true trail c = refl
  laid-stored false trail c = refl

  settles : (r : Ran) → settled (finishes 0 m₁ r) ≡ record { answer = (ran n (view m) r).answer; machine = run_leaves m (ran n (view m) r) }
  unfolding finishes ran run_leaves stored view
  settles r = rw (
    laid_opened r.trail (stored r.ending s.pc r.core),
    laid-stored (eqb r.ending 0 || eqb r.ending 5) r.trail r.core,
  ) (unfold laid with_regs in rw (zero-add r.steps) refl)

  goes : s.pc < n → (x : Finished) → x ≡ finished im b 0 m₁ → settled x ≡ run_call im b m
  unfolding run_call finished view
  goes h x e = rw e (by n refl)
    where
      by : (k : ℕ) → n ≡ k → settled (finishes 0 m₁ (go (sizes m₁.lent) im b (view m₁))) ≡ called k
      by zero q = absurd (omega arith)
      by (suc k) q =
          let inside : ltb s.pc (suc k) ≡ true = lt-ltb s.pc (suc k) (omega arith) in
          rw (
            runs-go (sizes m.lent) im b k (view m) inside,
            ← q,
            sizes_opened,
            view_opened,
          ) (settles (go (sizes m.lent) im b (entered n (view m))))

  -- ---- what the loop asks for

  inside_opened : s.pc < n → Inside n (entered n (view m))
  inside_opened h = by n refl
    where
      by : (k : ℕ) → n ≡ k → Inside n (entered n (view m))
      by zero q = absurd (omega arith)
      by (suc k) q = rw (← q) at (from_inside im b m passed k q (omega arith))

  inside : s.pc < n → Going n at (lend_frames opened l)
  unfolding entered set_frames view
  inside h =
      let i = inside_opened h in
      record { here = h; returns = rw (take_first s.depth frames (root n)) i.returns; fitting = fitting_opened }

  -- ---- the same, of what the code has written to frame 0

  module _ {r : ℕ} (written : r ≡ root n) where
    abbrev entry : Machine
    entry = machine_of s (lend_frames (set frames 0 r) l)

    pub run_past : 0 < n → n ≤ s.pc → record { answer = ended 0 s.pc 0; machine = entry } ≡ run_call im b m
    run_past = rw written past

    pub run-goes : s.pc < n → (x : Finished) → x ≡ finished im b 0 entry → settled x ≡ run_call im b m
    run-goes = rw written goes

    pub going : s.pc < n → Going n at (lend_frames (set frames 0 r) l)
    going = rw written inside
