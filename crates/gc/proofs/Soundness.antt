-- The test of 9 on the heap's numbers. Assumes nothing.
use mathlib.Core.Path.{◌≡◌, refl}
use Prim.Native.Nat.{ℕ, ◌+◌, ◌-◌, ◌%◌, ◌≤◌, ◌<◌, ◌^◌}
use mathlib.Core.Bool.{Bool, true, false, ◌&&◌, and-false}
use mathlib.Core.List.{List}
use native.Mathlib.Omega.{arith}
use lib.ListN.{length}
use lib.Dec.{leb, ltb, eqb}
use borrow.Author.Tests.{leb-true, lt-ltb, le-ltb}
use Rattle.memory.proofs.Tests.{both, leb_minus}
use Rattle.gc.specs.declared.Gc.{Gc}
use Rattle.gc.specs.Lent.{page_size, sound_of, InHeap}

module _ (g : Gc) (lent : ℕ) where
  pub no_page : g.pushed ≤ g.page → false ≡ sound_of g lent
  unfolding sound_of
  no_page h = rw (le-ltb g.page g.pushed h)
      (all_false (ltb 0 g.pushed) (eqb (g.pushed % page_size) 0) (leb g.pushed lent) (eqb (g.page % page_size) 0))
    where
      all_false : (a b c d : Bool) → false ≡ (a && (b && (c && (d && false))))
      all_false a b c d = simp and-false

  pub by_end : g.page < g.pushed
      → (eqb (g.pushed % page_size) 0 && (leb g.pushed lent && (eqb (g.page % page_size) 0 && leb g.len (g.pushed - g.page))))
      ≡ sound_of g lent
  unfolding sound_of
  by_end h = rw (
    lt-ltb 0 g.pushed (omega arith),
    lt-ltb g.page g.pushed h,
    leb_minus g.len g.page g.pushed (g.page + g.len) (omega arith) (omega arith),
  ) refl

-- numbers that pass, in a heap that 10 has passed
pub sound : (g : Gc) (heap : List ℕ) → g.base + length heap ≤ 2 ^ 48 → sound_of g (length heap) ≡ true → InHeap g heap
unfolding sound_of
sound g heap low e =
    let whole = (both (ltb 0 g.pushed) _ e).1 in
    let lent = both (leb g.pushed (length heap)) _ (both (eqb (g.pushed % page_size) 0) _ whole).1 in
    let ends = both (ltb g.page g.pushed) _ (both (eqb (g.page % page_size) 0) _ lent.1).1 in
    record { low = low; in_heap = leb-true _ _ lent.0; in_pages = leb-true _ _ ends.1 }
