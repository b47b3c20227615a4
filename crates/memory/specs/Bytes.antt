-- Numbers as bytes, little-endian. Definitions only.
use Rattle.std.specs.Prelude.{ℕ, zero, suc, ◌+◌, ◌*◌, ◌/◌, ◌%◌, List, [], ◌∷◌}
use Rattle.memory.specs.Lists.{part}

-- the k lowest bytes of v
unfoldable pub bytes_of : ℕ → ℕ → List ℕ
bytes_of zero v = []
bytes_of (suc k) v = v % 256 ∷ bytes_of k (v / 256)

-- the number that bytes stand for
unfoldable pub value_of : List ℕ → ℕ
value_of [] = 0
value_of (b ∷ bs) = b + 256 * value_of bs

-- the number of k bytes at the place a
abbrev pub number : ℕ → ℕ → List ℕ → ℕ
number k a xs = value_of (part a k xs)
