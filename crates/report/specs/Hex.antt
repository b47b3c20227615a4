-- Numbers as text: 'Output digits are lower-case hexadecimal.' Definitions only.
use Rattle.std.specs.Prelude.{ℕ, zero, suc, ◌+◌, ◌*◌, ◌/◌, ◌%◌, ◌^◌, cond, List, [], ◌∷◌, ltb}

-- `0` to `9`, then `a` to `f`
unfoldable pub digit_of_value : ℕ → ℕ
digit_of_value v = cond (ltb v 10) (48 + v) (87 + v)

-- the lowest n digits of v, highest first
unfoldable pub hex_of : ℕ → ℕ → List ℕ
hex_of zero v = []
hex_of (suc n) v = digit_of_value (v / 2 ^ (4 * n) % 16) ∷ hex_of n v
