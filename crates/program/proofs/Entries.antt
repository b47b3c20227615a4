-- The tables of an image: their ends go up, and where the entries of each lie. Assumes nothing.
use mathlib.Core.Path.{◌≡◌, refl, ap}
use Prim.Native.Nat.{ℕ, zero, suc, ◌-◌, ◌≤◌, ◌<◌}
use mathlib.Core.Bool.{true}
use mathlib.Core.List.{List, [], ◌∷◌}
use native.Mathlib.Omega.{arith}
use native.Mathlib.Nat.{not-suc-le-zero, le_of_suc-le-suc}
use lib.ListN.{length, get_or}
use lib.Dec.{leb, eqb}
use borrow.Author.Tests.{leb-true, eqb-true}
use Rattle.memory.proofs.Tests.{both}
use Rattle.program.specs.Image.{Tables, rising, tables_fit, tables_ok, start_of}

-- ---- the ends of tables go up

pub rising_to : (from : ℕ) (es : List ℕ) (to : ℕ) → rising from es to ≡ true → from ≤ to
unfolding rising
rising_to from [] to h = let e = eqb-true from to h in omega arith
rising_to from (e ∷ es) to h =
    let first = leb-true from e (both (leb from e) _ h).0 in
    let rest = rising_to e es to (both (leb from e) _ h).1 in
    omega arith

pub rising_at : (from : ℕ) (es : List ℕ) (to k : ℕ) → rising from es to ≡ true → k < length es → get_or es k 0 ≤ to
unfolding rising
rising_at from [] to k h l = absurd (not-suc-le-zero l)
rising_at from (e ∷ es) to zero h l = rising_to e es to (both (leb from e) _ h).1
rising_at from (e ∷ es) to (suc k) h l = rising_at e es to k (both (leb from e) _ h).1 (le_of_suc-le-suc l)

pub rising-on : (from : ℕ) (es : List ℕ) (to k : ℕ) → rising from es to ≡ true → suc k < length es → get_or es k 0 ≤ get_or es (suc k) 0
unfolding rising
rising-on from [] to k h l = absurd (not-suc-le-zero l)
rising-on from (e ∷ []) to k h l = absurd (not-suc-le-zero (le_of_suc-le-suc l))
rising-on from (e ∷ f ∷ es) to zero h l = leb-true e f (both (leb e f) _ (both (leb from e) _ h).1).0
rising-on from (e ∷ f ∷ es) to (suc k) h l = rising-on e (f ∷ es) to k (both (leb from e) _ h).1 (le_of_suc-le-suc l)

start-order : (es : List ℕ) (to k : ℕ) → rising 0 es to ≡ true → k < length es → start_of es k ≤ get_or es k 0
unfolding start_of
start-order es to zero h l = omega arith
start-order es to (suc k) h l = rising-on 0 es to k h l

pub first_start : (es : List ℕ) (k : ℕ) → k ≡ 0 → 0 ≡ start_of es k
unfolding start_of
first_start es zero e = refl
first_start es (suc k) e = absurd (omega arith)

pub later_start : (es : List ℕ) (k : ℕ) → (k ≡ 0 → ⊥) → get_or es (k - 1) 0 ≡ start_of es k
unfolding start_of
later_start es zero e = absurd (e refl)
later_start es (suc k) e = let i : suc k - 1 ≡ k = omega arith in ap (λ (j : ℕ). get_or es j 0) i

-- ---- the entries of table k

module _ (t : Tables) (k : ℕ) (ok : tables_ok t ≡ true) (l : k < length t.firsts) where
  parts : (eqb (length t.ends) (length t.firsts) ≡ true) × (rising 0 t.ends (length t.entries) ≡ true)
  unfolding tables_ok
  parts =
      let fit = both (tables_fit (length t.firsts) (length t.ends) (length t.entries)) _ ok in
      let ends = (both (leb (length t.firsts) 256) _ fit.0).1 in
      ((both (eqb (length t.ends) (length t.firsts)) _ ends).0, fit.1)

  -- its end is there, not below its start, and no end is past the entries
  pub bounds : (k < length t.ends) × (start_of t.ends k ≤ get_or t.ends k 0) × (get_or t.ends k 0 ≤ length t.entries)
  bounds =
      let e = eqb-true (length t.ends) (length t.firsts) parts.0 in
      let there : k < length t.ends = omega arith in
      (there, start-order t.ends (length t.entries) k parts.1 there, rising_at 0 t.ends (length t.entries) k parts.1 there)
