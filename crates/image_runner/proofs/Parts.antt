-- The parts of the runner's buffers that an image takes. Assumes nothing.
use mathlib.Core.Path.{◌≡◌, refl, sym, ap}
use Prim.Native.Nat.{ℕ, zero, suc, ◌*◌, ◌≤◌}
use mathlib.Core.List.{List, ◌∷◌}
use native.Mathlib.Omega.{arith}
use lib.ListN.{length, take, replicate, length-replicate}
use lib.Seq.{length-take-le}
use Rattle.gc.specs.Lent.{page_size}
use Rattle.text.specs.declared.Head.{Head}
use Rattle.vm.specs.Told.{lent_of}
use Rattle.rating.specs.Rated.{lent_for}

-- the first n of a buffer
pub record Part (xs buf : List ℕ) (n : ℕ) : Type 0 where
  pub inside : n ≤ length buf
  pub long : n ≡ length (take n buf)
  pub is : take n buf ≡ xs

-- zeros, and the first of them
take-zeros : (n k : ℕ) → n ≤ k → take {A = ℕ} n (replicate k 0) ≡ replicate n 0
take-zeros zero k h = refl
take-zeros (suc n) zero h = absurd (omega arith)
take-zeros (suc n) (suc k) h = ap (λ (xs : List ℕ). 0 ∷ xs) (take-zeros n k (omega arith))

-- n of k zeros
pub zeros-part : {n : ℕ} (k : ℕ) → n ≤ k → Part (replicate n 0) (replicate k 0) n
zeros-part {n} k room =
    let zeros : length (replicate {A = ℕ} k 0) ≡ k = length-replicate k 0 in
    let inside : n ≤ length (replicate {A = ℕ} k 0) = omega arith in
    record { inside = inside; long = sym (length-take-le n (replicate k 0) inside); is = take-zeros n k room }

pub lent_of_parts : {frames heap slots spare : List ℕ} (h : Head)
    → Part (replicate h.frames 0) frames h.frames → Part (replicate (h.pages * page_size) 0) heap (h.pages * page_size)
    → Part (replicate h.slots 0) slots h.slots → Part (replicate h.slots 0) spare h.slots
    → lent_of (take h.frames frames) (take (h.pages * page_size) heap) (take h.slots slots) (take h.slots spare) ≡ lent_for h
lent_of_parts h a b c d = rw (a.is, b.is, c.is, d.is) refl
