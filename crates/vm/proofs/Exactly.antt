-- 'An allocation is refused exactly if the last page can't hold it and the lent heap has less left than `grow` asks': of the machine's call.
-- Assumes nothing.
use mathlib.Core.Path.{◌≡◌, refl, sym, ap, ◌∙◌}
use Prim.Native.Nat.{ℕ, ◌-◌}
use mathlib.Core.Bool.{Bool, true, false, cond, not, ◌&&◌}
use mathlib.Core.Option.{none}
use lib.ListN.{length}
use lib.Dec.{ltb}
use Rattle.gc.specs.Pages.{Pages, Block, grow_of, holds, allocated}
use Rattle.gc.specs.Lent.{page_size, pages_of}
use Rattle.gc.specs.Lent as Heap
use Rattle.std.specs.Prelude.{is_none, ok_or}
use Rattle.anomaly.specs.declared.Refusal.{Refusal}
use Rattle.gc.proofs.Blocks.{refused_exactly}
use Rattle.gc.proofs.Soundness.{sound}
use Rattle.program.specs.Image.{test, failing}
use Rattle.program.proofs.Tests.{failing-cons}
use Rattle.vm.specs.declared.State.{State}
use Rattle.vm.specs.Machine.{Lent, value, refused, host, allocate, heap_ok, pages_belong, Called, tests_by, tests, perform}
use Rattle.vm.specs.Told.{machine_of, answer_by}
use Rattle.vm.proofs.Buffers.{heap-low}
use Rattle.vm.proofs.Replies.{allocate-told}

module _ (s : State) (l : Lent) (kind align n : ℕ) where
  abbrev pages : Pages
  pages = pages_of s.gc l.heap

  -- the last page can't hold it, and the lent heap has less left
  abbrev lacking : Bool
  lacking = not (holds n pages) && ltb (length l.heap - s.gc.pushed) (grow_of page_size n)

  answered : (t : Bool) (b : Block)
      → answer_by value (ok_or (Heap.granted t b s.gc l.heap).answer Refusal.Memory)
      ≡ cond (is_none (Heap.granted t b s.gc l.heap).answer) (refused 2) (value b.address)
  unfolding Heap.granted
  answered true b = refl
  answered false b = refl

  -- a call that no test refuses: 2, or the block's address
  pub allocate-refused_exactly : failing (tests (host (allocate kind align n)) s l) ≡ none
      → (perform (host (allocate kind align n)) (machine_of s l)).answer
      ≡ cond lacking (refused 2) (value (allocated page_size kind n pages).address)
  unfolding tests tests_by pages_belong Heap.alloc_of
  allocate-refused_exactly passed =
      let size = failing-cons (test (heap_ok s.gc.base (length l.heap)) 10) _ passed in
      let operands = failing-cons (test _ 13) _ size.1 in
      let state = failing-cons (test _ 9) _ operands.1 in
      let in_heap_lem = sound s.gc l.heap (heap-low _ _ size.0) state.0 in
      ap (λ (c : Called). c.answer) (sym (allocate-told s l kind align n passed _ refl))
      ∙ answered _ (allocated page_size kind n pages)
      ∙ rw (refused_exactly s.gc kind n l.heap in_heap_lem) refl
