-- What refusal 10 leaves of the buffers' sizes, and how it is computed without a sum that could pass 2^64. Assumes nothing.
use mathlib.Core.Path.{◌≡◌, refl}
use Prim.Native.Nat.{ℕ, zero, suc, ◌+◌, ◌-◌, ◌*◌, ◌%◌, ◌^◌, ◌≤◌, ◌<◌}
use mathlib.Core.Bool.{true, false, ◌&&◌}
use mathlib.Core.List.{List, [], ◌∷◌}
use lib.ListN.{length, take, drop}
use native.Mathlib.Omega.{arith}
use lib.Dec.{leb, eqb}
use borrow.Author.Tests.{leb-true, le-leb, lt-leb}
use Rattle.memory.proofs.Tests.{leb_minus}
use Rattle.memory.proofs.Tests.{both}
use Rattle.gc.specs.Lent.{page_size}
use Rattle.vm.specs.declared.State.{State}
use Rattle.program.specs.Image.{below}
use Rattle.vm.specs.Machine.{Lent, frames_ok, heap_ok, returns_ok, frames_belong}

pub frames_room : (n : ℕ) → frames_ok n ≡ true → 1 ≤ n
unfolding frames_ok
frames_room n f = leb-true 1 n (both (leb 1 n) _ f).0

pub heap_room : (base n : ℕ) → heap_ok base n ≡ true → page_size ≤ n
unfolding heap_ok
heap_room base n h = leb-true page_size n (both (leb page_size n) _ (both _ _ h).0).0

pub heap_long : (base n : ℕ) → 256 * page_size < n → false ≡ heap_ok base n
unfolding heap_ok
heap_long base n h = rw (le-leb page_size n (omega arith), lt-leb n (256 * page_size) h) refl

pub heap_tested : (base n : ℕ) → n ≤ 256 * page_size
    → ((leb page_size n && eqb (n % page_size) 0) && (leb page_size base && (eqb (base % page_size) 0 && leb base (2 ^ 48 - n)))) ≡ heap_ok base n
unfolding heap_ok
heap_tested base n h = rw (le-leb n (256 * page_size) h, leb_minus base n (2 ^ 48) (base + n) refl (omega arith)) refl

pub heap-low : (base n : ℕ) → heap_ok base n ≡ true → base + n ≤ 2 ^ 48
unfolding heap_ok
heap-low base n h =
    let address = (both (leb page_size n && (leb n (256 * page_size) && eqb (n % page_size) 0))
    (leb page_size base && (eqb (base % page_size) 0 && leb (base + n) (2 ^ 48))) h).1 in
    let place = (both (leb page_size base) (eqb (base % page_size) 0 && leb (base + n) (2 ^ 48)) address).1 in
    leb-true (base + n) (2 ^ 48) (both (eqb (base % page_size) 0) (leb (base + n) (2 ^ 48)) place).1

-- ---- frames that can belong to a state

tail_part : (d : ℕ) (xs : List ℕ) → take d (drop 1 xs) ≡ drop 1 (take (suc d) xs)
tail_part zero [] = refl
tail_part (suc d) [] = refl
tail_part d (x ∷ xs) = refl

module _ (s : State) (l : Lent) where
  pub belong_deep : (words : ℕ) → length l.frames < s.depth → false ≡ frames_belong words s l
  unfolding frames_belong
  belong_deep words h = rw (lt-leb s.depth (length l.frames) h) refl

  module _ (fit : s.depth ≤ length l.frames) where
    pub belong_empty : true ≡ frames_belong 0 s l
    unfolding frames_belong returns_ok
    belong_empty = rw (le-leb s.depth (length l.frames) fit) refl

    pub belong_idle : (words : ℕ) → s.depth ≡ 0 → true ≡ frames_belong words s l
    unfolding frames_belong returns_ok below
    belong_idle zero e = belong_empty
    belong_idle (suc last) e = rw (le-leb s.depth (length l.frames) fit, e) refl

    pub belong_below : (words depth : ℕ) → (words ≡ 0 → ⊥) → (depth ≡ 0 → ⊥) → s.depth ≡ depth
        → below (words - 1) (take (depth - 1) (drop 1 l.frames)) ≡ frames_belong words s l
    unfolding frames_belong returns_ok
    belong_below zero depth w d e = absurd (w refl)
    belong_below (suc last) zero w d e = absurd (d refl)
    belong_below (suc last) (suc k) w d e =
        let a : suc last - 1 ≡ last = omega arith in
        let b : suc k - 1 ≡ k = omega arith in
        rw (a, b, le-leb s.depth (length l.frames) fit, e, tail_part k l.frames) refl
