-- The lines of a text: the first one, and that the last ends with a line feed. Assumes nothing.
use Prim.Native.Nat.{ℕ, suc, ◌+◌, ◌-◌, ◌<◌, ◌≤◌}
use mathlib.Core.Path.{◌≡◌, refl, ◌∙◌}
use mathlib.Core.Bool.{Bool, true, false, not, cond, ◌&&◌}
use mathlib.Core.List.{List, [], ◌∷◌}
use lib.ListN.{length, take, drop}
use lib.Dec.{eqb, ltb}
use native.Mathlib.Nat.{not-suc-le-zero}
use native.Mathlib.Omega.{arith}
use borrow.Author.Tests.{le-leb, lt-leb, ltb-true, ltb-false}
use Rattle.std.proofs.Common.{Option, None, Some}
use Rattle.std.proofs.lemmas.Bool.Decides.{nat_tests}
use Rattle.std.specs.List.{position_or_len}
use Rattle.std.specs.Option.{SomeIff}
use Rattle.text.specs.Digits.{all_digits}
use Rattle.text.specs.Lines.{Lines, none, cut, line, before, lines_of, whole, lines_in, up_to, kind_of, count_ok, line_ok}

-- ---- the first line of a text

first_cons : (c : ℕ) (s : List ℕ) (b : Bool) → eqb c 10 ≡ b →
    (up_to s < length s → lines_of s ≡ line (take (up_to s) s) (lines_of (drop (suc (up_to s)) s))) → up_to (c ∷ s) < suc (length s) →
    lines_of (c ∷ s) ≡ line (take (up_to (c ∷ s)) (c ∷ s)) (lines_of (drop (suc (up_to (c ∷ s))) (c ∷ s)))
unfolding up_to lines_of before
first_cons c s true t more h = rw t
first_cons c s false t more h = let k : up_to s < length s = omega (arith, rw t at h) in rw (t, more k)

pub first_line : (s : List ℕ) → up_to s < length s → lines_of s ≡ line (take (up_to s) s) (lines_of (drop (suc (up_to s)) s))
unfolding up_to
first_line [] h = absurd (not-suc-le-zero h)
first_line (c ∷ s) h = first_cons c s (eqb c 10) refl (first_line s) h

whole_before : (c : ℕ) (t : Lines) → whole t ≡ [] → whole (before c t) ≡ []
unfolding before whole
whole_before c none h = refl
whole_before c cut h = refl
whole_before c (line l more) h = cc

no_cons : (c : ℕ) (s : List ℕ) (b : Bool) → eqb c 10 ≡ b → (length s ≤ up_to s → lines_in s ≡ []) → suc (length s) ≤ up_to (c ∷ s) → lines_in (c ∷ s) ≡ []
unfolding up_to lines_of
no_cons c s true t more h = absurd (not-suc-le-zero (rw t at h))
no_cons c s false t more h = let k : length s ≤ up_to s = omega (arith, rw t at h) in rw t (whole_before c (lines_of s) (more k))

pub no_line : (s : List ℕ) → length s ≤ up_to s → lines_in s ≡ []
unfolding lines_of whole
no_line [] h = refl
no_line (c ∷ s) h = no_cons c s (eqb c 10) refl (no_line s) h

-- ---- as `position` finds it

position-is : (s : List ℕ) → position_or_len (λ c. eqb c 10) s ≡ up_to s
unfolding up_to
position-is [] = refl
position-is (c ∷ s) = either (eqb c 10) (position-is s)
  where
    either : (b : Bool) {n m : ℕ} → n ≡ m → cond (not b) (1 + n) 0 ≡ cond b 0 (suc m)
    either true h = refl
    either false h = omega (arith, h)

pub feed_found : (s : List ℕ) (r : Option ℕ)
    → r ≡ cond (ltb (position_or_len (λ c. eqb c 10) s) (length s)) (Some (position_or_len (λ c. eqb c 10) s)) None
    → SomeIff r (up_to s < length s) (up_to s)
feed_found s r e = by (ltb (up_to s) (length s)) refl (rw position-is at e)
  where
    by : (b : Bool) → ltb (up_to s) (length s) ≡ b → r ≡ cond (ltb (up_to s) (length s)) (Some (up_to s)) None → SomeIff r (up_to s < length s) (up_to s)
    by true t e = let z : r ≡ Some (up_to s) = e ∙ rw t in rw z (ltb-true (up_to s) (length s) t, refl)
    by false t e = let z : r ≡ None = e ∙ rw t in rw z (λ h. let k = ltb-false (up_to s) (length s) t in omega arith)

-- ---- the lines of a text, as it is split at the first line feed

pub line_split : (s : List ℕ) {l rest : List ℕ} → (up_to s < length s) × (l ≡ take (up_to s) s) × (rest ≡ drop (suc (up_to s)) s)
    → lines_in s ≡ l ∷ lines_in rest
unfolding whole
line_split s (here, first, behind) = rw (first_line s here, first, behind)

-- ---- a line of an unknown kind

count_unknown : (k n : ℕ) → 5 < k → count_ok k n ≡ false
unfolding count_ok
count_unknown k n h = grind (arith, nat_tests)

pub line_by : (l : List ℕ) → 2 ≤ length l → (b : Bool) → b ≡ all_digits l → (r : Bool) → (b ≡ true → r ≡ count_ok (kind_of l) (length l - 2)) → (b ≡ false → r ≡ false)
    → r ≡ line_ok l
unfolding line_ok
line_by l h true d r counts bad = rw (le-leb 2 (length l) h, ← d) (counts refl)
line_by l h false d r counts bad = rw (le-leb 2 (length l) h, ← d) (bad refl)

pub line_short : (l : List ℕ) → length l < 2 → false ≡ line_ok l
unfolding line_ok
line_short l h = rw (lt-leb 2 (length l) h)

and_false : (a b : Bool) → (a && (b && false)) ≡ false
and_false true true = refl
and_false true false = refl
and_false false b = refl

pub line_unknown : (l : List ℕ) → 5 < kind_of l → false ≡ line_ok l
unfolding line_ok
line_unknown l h = rw (count_unknown (kind_of l) (length l - 2) h, and_false)
