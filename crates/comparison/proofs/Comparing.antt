-- `==` of two byte strings, and `same`. Assumes nothing.
use Rattle.std.proofs.Common.{◌≡◌, List, [], ◌∷◌, ℕ, ap, ◌&&◌, eqb, refl}
use Rattle.std.specs.Str.{bytes_eq}
use Rattle.memory.specs.Lists.{same}

pub same_from_bytes_eq : (a b : List ℕ) → same a b ≡ bytes_eq a b
unfolding same
same_from_bytes_eq [] [] = refl
same_from_bytes_eq [] (y ∷ b) = refl
same_from_bytes_eq (x ∷ a) [] = refl
same_from_bytes_eq (x ∷ a) (y ∷ b) = ap (λ t. eqb x y && t) (same_from_bytes_eq a b)
