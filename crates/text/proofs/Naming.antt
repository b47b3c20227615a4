-- Names, line by line. Assumes nothing.
use Prim.Native.Nat.{ℕ, ◌+◌, ◌≤◌, ◌<◌, ◌^◌}
use mathlib.Core.Path.{◌≡◌, refl, ap}
use mathlib.Core.Bool.{Bool, true, false, cond}
use mathlib.Core.List.{List, [], ◌∷◌}
use lib.ListN.{length, length-append}
use lib.Dec.{eqb}
use native.Mathlib.Omega.{arith}
use Rattle.std.proofs.lemmas.Bool.Decides.{nat_tests}
use Rattle.text.specs.Digits.{field}
use Rattle.text.specs.Lines.{kind_of, payload_of}
use Rattle.text.specs.Sections.{adds}
use Rattle.text.specs.Names.{bytes_in, named, names_of}
use Rattle.text.specs.declared.sections.Section.TheVariants.{Globals}

pub one : (here : Bool) (v : ℕ) → length (cond here (v ∷ []) []) ≡ cond here 1 0
one true v = refl
one false v = refl

-- how many globals a line makes
pub ones : (targets values k : ℕ) (p : List ℕ) → length (adds Globals targets values k p) ≡ cond (eqb k 2) 1 0 + cond (eqb k 5) 1 0
unfolding adds
ones targets values k p = rw (length-append, one (eqb k 2) (field 0 16 p), one (eqb k 5) 0)

one_of : (k : ℕ) → cond (eqb k 2) 1 0 + cond (eqb k 5) 1 0 ≤ 1
one_of k = grind (arith, nat_tests)

pub globals-few : (targets values k : ℕ) (p : List ℕ) → length (adds Globals targets values k p) ≤ 1
globals-few targets values k p = rw (ones targets values k p) (one_of k)

-- the names from a line on, g globals before it
module _ {lines left : List (List ℕ)} {l : List ℕ} (step : lines ≡ l ∷ left) (g n : ℕ) (made : n ≡ length (adds Globals 0 0 (kind_of l) (payload_of l)))
    (b : Bool) (is : b ≡ eqb (kind_of l) 5) where
  pub names_here : b ≡ true → names_of g lines ≡ named g (bytes_in (payload_of l)) ∷ names_of (g + n) left
  unfolding names_of
  names_here k = rw (step, made, ← is, k)

  pub names_later : b ≡ false → names_of g lines ≡ names_of (g + n) left
  unfolding names_of
  names_later k = rw (step, made, ← is, k)

  pub fewer : g + length lines < 2 ^ 64 → g + n + length left < 2 ^ 64
  fewer h = omega (arith, made, globals-few 0 0 (kind_of l) (payload_of l), ap (λ (x : List (List ℕ)). length x) step)
