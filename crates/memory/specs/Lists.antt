-- Lists written over lists, compared, and cut. Definitions only.
use Rattle.std.specs.Prelude.{ℕ, zero, suc, ◌+◌, ◌≡◌, Bool, true, false, ◌&&◌, List, [], ◌∷◌, length, take, drop, eqb}

-- new written over old from its beginning; what lies past the end of old is lost
unfoldable pub over : {A : Type 0} → List A → List A → List A
over [] old = old
over (x ∷ new) [] = []
over (x ∷ new) (y ∷ old) = x ∷ over new old

-- new written over old from the place a on
unfoldable pub write : ℕ → List ℕ → List ℕ → List ℕ
write zero new old = over new old
write (suc a) new [] = []
write (suc a) new (y ∷ old) = y ∷ write a new old

-- `after` is `before` with `new` written over it from the place a on; b is the place behind `new`
pub record Written (before : List ℕ) (a : ℕ) (new after : List ℕ) (b : ℕ) : Type 0 where
  pub ends : b ≡ a + length new
  pub is : after ≡ write a new before

-- equal in length and in every element
unfoldable pub same : List ℕ → List ℕ → Bool
same [] [] = true
same [] (y ∷ ys) = false
same (x ∷ xs) [] = false
same (x ∷ xs) (y ∷ ys) = eqb x y && same xs ys

-- n elements from the place a on, or as many as there are
abbrev pub part : ℕ → ℕ → List ℕ → List ℕ
part a n xs = take n (drop a xs)
