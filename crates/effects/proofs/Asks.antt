-- What an instruction asks for: differences, and reads inside and outside. Assumes nothing.
use Rattle.std.proofs.Common.{◌≡◌, ℕ, ◌+◌, ◌%◌, ◌^◌, ◌<◌, ◌≤◌, refl, arith, le-ltb, lt-ltb}
use Rattle.effects.specs.declared.Effect.{Effect}
use Rattle.effects.specs.declared.Effect.TheVariants as effect
use Rattle.effects.specs.Stops.{unlisted}
use Rattle.effects.specs.Effect.{minus, within}

-- a difference modulo 2 ^ 64, by what std::num says of it
pub difference : (x y r : ℕ) → x < 2 ^ 64 → y < 2 ^ 64 → r < 2 ^ 64 → (r + y) % 2 ^ 64 ≡ x → r ≡ minus x y
difference x y r a b c e = omega arith

-- ---- reads inside and outside

module _ (i n : ℕ) (e : Effect) where
  pub inside : i < n → e ≡ within i n e
  unfolding within
  inside h = rw (lt-ltb i n h) refl

  pub outside : n ≤ i → effect.Unlisted unlisted ≡ within i n e
  unfolding within
  outside h = rw (le-ltb i n h) refl
