-- What each call comes to, by its tests in turn. Assumes nothing.
use mathlib.Core.Path.{◌≡◌, refl, sym, ap, ◌∙◌}
use Prim.Native.Nat.{ℕ, ◌+◌, ◌≤◌, ◌<◌}
use mathlib.Core.Bool.{Bool, true, false, ◌&&◌}
use mathlib.Core.Option.{none, some}
use Rattle.std.specs.Prelude as std
use Rattle.std.specs.Prelude.{None, Some, ok_or}
use Rattle.anomaly.specs.declared.Refusal.{Refusal}
use mathlib.Core.List.{List, [], ◌∷◌}
use lib.ListN.{length, set}
use lib.Dec.{leb, ltb}
use borrow.Author.Tests.{lt-ltb, le-ltb, le-leb}
use Rattle.memory.specs.Lists.{over}
use Rattle.memory.proofs.Over.{over-take}
use Rattle.gc.specs.declared.Gc.{Gc}
use Rattle.gc.specs.Pages.{Pages, allocated}
use Rattle.gc.specs.Lent.{Outcome, page_size, pages_of, InHeap}
use Rattle.gc.specs.Lent as Heap
use Rattle.gc.proofs.Blocks.{pushed-is}
use Rattle.gc.proofs.Soundness as Soundness
use Rattle.op.specs.Layout.{is_alignment}
use Rattle.vm.specs.declared.State.{State}
use Rattle.program.specs.Image.{Test, test, failing}
use Rattle.program.proofs.Tests.{failing-cons, failing-here, failing_later}
use Rattle.vm.proofs.Performed.{refused-is, acted_is}
use Rattle.vm.specs.Core.{used, short, set_memory, set_pages, set_bytes}
use Rattle.vm.specs.Names.{Given, as_given, allocates, filled, boxed, optional}
use Rattle.vm.specs.Machine.{Lent, Machine, sizes, lend_frames, lend_heap, keep_regs, keep_pc, keep_depth, keep_gc, memory_of, view, Called, value, done}
use Rattle.vm.specs.Machine.{refused, setting, reset, put_pc, put_reg, host, Host, allocate, option, unset, traced, with_pages, with_frames}
use Rattle.vm.specs.Machine.{with_regs, with_setting, hosted, host_leaves, granted, host_call, act, frames_ok, heap_ok, pages_belong, tests_by, tests}
use Rattle.vm.specs.Machine.{tried, perform}
use Rattle.vm.specs.Told.{machine_of, answer_by, told, block_of, memory_in}
use Rattle.vm.proofs.Fits.{take-fits, view-within, short-heap}
use Rattle.vm.proofs.Buffers.{heap-low}

abbrev refuses : ℕ → State → Lent → Called
refuses e s l = record { answer = refused e; machine = machine_of s l }

pub pc_put : (s : State) (l : Lent) (p : ℕ)
    → record { answer = done; machine = machine_of (keep_pc p s) l } ≡ perform (setting (put_pc p)) (machine_of s l)
unfolding perform tests tests_by failing tried act with_setting with_regs
pc_put s l p = refl

module _ (s : State) (l : Lent) (r v : ℕ) where
  pub register-refused : 32 ≤ r → refuses 13 s l ≡ perform (setting (put_reg r v)) (machine_of s l)
  unfolding perform tests tests_by failing tried
  register-refused h = rw (le-ltb r 32 h, failing, tried) refl

  pub register_put : r < 32 → record { answer = done; machine = machine_of (keep_regs (set s.regs r v) s) l }
      ≡ perform (setting (put_reg r v)) (machine_of s l)
  unfolding perform tests tests_by failing tried act with_setting with_regs
  register_put h = rw (lt-ltb r 32 h, failing, tried) refl

pub over_first : (xs : List ℕ) (v : ℕ) → set xs 0 v ≡ over (v ∷ []) xs
unfolding over
over_first [] v = refl
over_first (x ∷ xs) v = refl

module _ (s : State) (l : Lent) where
  pub reset-refused : frames_ok (length l.frames) ≡ false → refuses 10 s l ≡ perform (setting reset) (machine_of s l)
  unfolding perform tests tests_by failing tried
  reset-refused e = rw (e, failing, tried) refl

  pub reset-done : frames_ok (length l.frames) ≡ true
      → record { answer = done; machine = machine_of (keep_pc unset (keep_depth 1 s)) (lend_frames (set l.frames 0 unset) l) }
      ≡ perform (setting reset) (machine_of s l)
  unfolding perform tests tests_by failing tried act with_setting with_regs with_frames traced
  reset-done e = rw (e, failing, tried, over_first) refl

-- ---- allocating

-- only the heap can lack what new pages need
module _ (s : State) (l : Lent) (p : Pages) where
  abbrev machine : Machine
  machine = machine_of s l

  pub pages-short : short (sizes l) (used (set_memory (set_pages p (memory_of machine)) (view machine)))
      ≡ failing (test (leb (length p.bytes) (length l.heap)) 2 ∷ [])
  unfolding used sizes view memory_of set_memory set_pages
  pages-short = short-heap (sizes l) (used (view machine)) (view-within machine) (length p.bytes)

  -- a call that leaves them, with the value a
  module _ (k : Host) (leaves : host_leaves k machine (set_pages p (memory_of machine)) ≡ with_pages p machine) (a : ℕ) where
    abbrev given : Given
    given = record { value = a; memory = set_pages p (memory_of machine) }

    told_case : (t : Bool)
        → told (answer_by value (ok_or (Heap.granted t (record { address = a; pages = p }) s.gc l.heap).answer Refusal.Memory))
        (keep_gc (Heap.granted t (record { address = a; pages = p }) s.gc l.heap).numbers s)
        (lend_heap (Heap.granted t (record { address = a; pages = p }) s.gc l.heap).heap l)
        ≡ granted (failing (test t 2 ∷ [])) k machine given
    unfolding Heap.granted granted failing with_pages
    told_case true = rw leaves refl
    told_case false = refl

    pub pages-told : (x : Outcome) → x ≡ Heap.granted_in (record { address = a; pages = p }) s.gc l.heap
        → told (answer_by value (ok_or x.answer Refusal.Memory)) (keep_gc x.numbers s) (lend_heap x.heap l) ≡ host_call k machine given
    unfolding host_call Heap.fits
    pages-told x e = rw (e, pages-short) (told_case (leb (length p.bytes) (length l.heap)))

-- the heap and the pages in it, as the two tests leave them
pub pages_sound : (g : Gc) (heap : List ℕ) → none ≡ failing (test (heap_ok g.base (length heap)) 10 ∷ [])
    → none ≡ failing (test (Heap.sound_of g (length heap)) 9 ∷ []) → InHeap g heap
pages_sound g heap size state =
    Soundness.sound _ _ (heap-low _ _ (failing-cons (test _ 10) [] (sym size)).0) (failing-cons (test _ 9) [] (sym state)).0

module _ (s : State) (l : Lent) (kind align n : ℕ) where
  abbrev size : Test
  size = test (heap_ok s.gc.base (length l.heap)) 10

  abbrev operands : Test
  operands = test (ltb kind 4 && is_alignment align) 13

  abbrev state : Test
  state = test (Heap.sound_of s.gc (length l.heap)) 9

  pub allocate_10 : (e : ℕ) → some e ≡ failing (size ∷ []) → refuses e s l ≡ perform (host (allocate kind align n)) (machine_of s l)
  unfolding tests tests_by
  allocate_10 e f = refused-is _ _ e (failing-here (size ∷ []) _ e (sym f))

  module _ (large : none ≡ failing (size ∷ [])) where
    pub allocate_13 : (e : ℕ) → some e ≡ failing (operands ∷ []) → refuses e s l ≡ perform (host (allocate kind align n)) (machine_of s l)
    unfolding tests tests_by
    allocate_13 e f = refused-is _ _ e (failing_later (size ∷ []) _ (sym large) ∙ failing-here (operands ∷ []) _ e (sym f))

    module _ (known : none ≡ failing (operands ∷ [])) where
      later : failing (tests (host (allocate kind align n)) s l) ≡ failing (state ∷ [])
      unfolding tests tests_by pages_belong
      later = failing_later (size ∷ []) _ (sym large) ∙ failing_later (operands ∷ []) _ (sym known)

      pub allocate_9 : (e : ℕ) → some e ≡ failing (state ∷ []) → refuses e s l ≡ perform (host (allocate kind align n)) (machine_of s l)
      allocate_9 e f = refused-is _ _ e (later ∙ sym f)

      pub allocate-passed : none ≡ failing (state ∷ []) → failing (tests (host (allocate kind align n)) s l) ≡ none
      allocate-passed f = later ∙ sym f

  pub allocate-told : failing (tests (host (allocate kind align n)) s l) ≡ none → (x : Outcome) → x ≡ Heap.alloc_of s.gc kind n l.heap
      → told (answer_by value (ok_or x.answer Refusal.Memory)) (keep_gc x.numbers s) (lend_heap x.heap l)
      ≡ perform (host (allocate kind align n)) (machine_of s l)
  unfolding Heap.alloc_of hosted allocates as_given host_leaves memory_of set_pages act
  allocate-told passed x e =
      pages-told s l (allocated page_size kind n (pages_of s.gc l.heap)).pages (allocate kind align n) refl
      (allocated page_size kind n (pages_of s.gc l.heap)).address x e
      ∙ acted_is (host (allocate kind align n)) (machine_of s l) passed

-- ---- options

module _ (s : State) (l : Lent) where
  abbrev held : Machine
  held = machine_of s l

  abbrev large : Test
  large = test (heap_ok s.gc.base (length l.heap)) 10

  abbrev sound : Test
  sound = test (Heap.sound_of s.gc (length l.heap)) 9

  module _ (o : std.Option ℕ) where
    pub option_10 : (e : ℕ) → some e ≡ failing (large ∷ []) → refuses e s l ≡ perform (host (option o)) held
    unfolding tests tests_by
    option_10 e f = refused-is _ _ e (failing-here (large ∷ []) _ e (sym f))

    module _ (p : none ≡ failing (large ∷ [])) where
      after_size : failing (tests (host (option o)) s l) ≡ failing (sound ∷ [])
      unfolding tests tests_by pages_belong
      after_size = failing_later (large ∷ []) _ (sym p)

      pub option_9 : (e : ℕ) → some e ≡ failing (sound ∷ []) → refuses e s l ≡ perform (host (option o)) held
      option_9 e f = refused-is _ _ e (after_size ∙ sym f)

      pub option-passed : none ≡ failing (sound ∷ []) → failing (tests (host (option o)) s l) ≡ none
      option-passed f = after_size ∙ sym f

  pub option_some : (v : ℕ) → failing (tests (host (option (Some v))) s l) ≡ none
      → (x : Outcome) → x ≡ Heap.granted_in (block_of (boxed 1 v (memory_in s.gc l.heap))) s.gc l.heap
      → told (answer_by value (ok_or x.answer Refusal.Memory)) (keep_gc x.numbers s) (lend_heap x.heap l) ≡ perform (host (option (Some v))) held
  unfolding hosted optional boxed filled host_leaves memory_of set_pages set_bytes act
  option_some v passed x e =
      pages-told s l (block_of (boxed 1 v (memory_in s.gc l.heap))).pages (option (Some v)) refl
      (block_of (boxed 1 v (memory_in s.gc l.heap))).address x e
      ∙ acted_is (host (option (Some v))) held passed

  -- pages laid over themselves
  same-pages : InHeap s.gc l.heap → with_pages (pages_of s.gc l.heap) held ≡ held
  unfolding with_pages pages_of Heap.numbers_of
  same-pages b = rw (over-take, pushed-is s.gc l.heap b) refl

  pub option-none : failing (tests (host (option None)) s l) ≡ none → InHeap s.gc l.heap
      → record { answer = value (s.gc.base + 16); machine = held } ≡ perform (host (option None)) held
  unfolding hosted optional host_call granted failing host_leaves memory_of set_pages pages_of act
  option-none passed b =
      sym (rw (
        pages-short s l (pages_of s.gc l.heap),
        le-leb _ _ (take-fits s.gc.pushed l.heap),
      ) (ap (λ (m : Machine). record { answer = value (s.gc.base + 16); machine = m }) (same-pages b)))
      ∙ acted_is (host (option None)) held passed
