-- Comparing two lists of numbers: what `==` of two slices says. Assumes nothing.
use mathlib.Core.Path.{◌≡◌, refl, ap}
use Prim.Native.Nat.{ℕ}
use mathlib.Core.Bool.{Bool, ◌&&◌}
use mathlib.Core.List.{List, [], ◌∷◌}
use lib.Dec.{eqb}
use lib.Pointwise.{pointwise}
use Rattle.memory.specs.Lists.{same}

pub pointwise-same : (xs ys : List ℕ) → pointwise eqb xs ys ≡ same xs ys
unfolding same
pointwise-same [] [] = refl
pointwise-same [] (y ∷ ys) = refl
pointwise-same (x ∷ xs) [] = refl
pointwise-same (x ∷ xs) (y ∷ ys) = ap (λ (t : Bool). eqb x y && t) (pointwise-same xs ys)
