-- FxHash over chunks of 8 bytes, seeded by the length and folded to 32 bits: `hash` of string.rs. Definitions only.
use Rattle.std.specs.Prelude.{List, [], ◌∷◌, ℕ, zero, suc, ◌+◌, ◌*◌, ◌/◌, ◌%◌, ◌^◌, length, take, drop}
use Rattle.std.specs.Int.Bits.{bit_xor}
use Rattle.memory.specs.Bytes.{value_of}

-- 64 bits rotated left by 5
abbrev pub rotated : ℕ → ℕ
rotated x = x * 2 ^ 5 % 2 ^ 64 + x / 2 ^ 59

abbrev pub multiplier : ℕ
multiplier = 0x517c_c1b7_2722_0a95

-- one chunk taken in: rotate, exclusive or, and the product modulo 2^64
unfoldable pub mixed : ℕ → ℕ → ℕ
mixed h chunk = bit_xor (rotated h) chunk * multiplier % 2 ^ 64

-- the lower half exclusive-or the upper half
unfoldable pub folded : ℕ → ℕ
folded h = bit_xor h (h / 2 ^ 32) % 2 ^ 32

-- the chunks one by one, the last of them shorter where the length is no multiple of 8; there are at most `fuel`
unfoldable pub chunks : ℕ → ℕ → List ℕ → ℕ
chunks zero h bs = h
chunks (suc fuel) h [] = h
chunks (suc fuel) h (b ∷ bs) = chunks fuel (mixed h (value_of (take 8 (b ∷ bs)))) (drop 8 (b ∷ bs))

-- a name has no more chunks than bytes
unfoldable pub hash_of : List ℕ → ℕ
hash_of bs = folded (chunks (length bs) (length bs) bs)

-- `small_hash`: one chunk, of so many bytes
unfoldable pub small_hash_of : ℕ → ℕ → ℕ
small_hash_of len word = folded (mixed len word)
