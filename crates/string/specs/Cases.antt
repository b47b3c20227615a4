-- Worked cases beside those that document 01 marks (P), which stand in `corners`: one table, and the one fact, by computation, that all its rows
-- hold. The hashes are what string.rs computes; the words are document 01's. Assumes nothing.
use Rattle.std.specs.Prelude.{◌≡◌, refl, true, List, [], ◌∷◌, ℕ}
use Rattle.memory.specs.Bytes.{value_of}
use Rattle.memory.specs.Rows.{hold}
use Rattle.string.specs.Hash.{mixed, folded, chunks, hash_of, small_hash_of}

-- ten bytes: a whole chunk and a shorter one
abbrev ten : List ℕ
ten = 48 ∷ 49 ∷ 50 ∷ 51 ∷ 52 ∷ 53 ∷ 54 ∷ 55 ∷ 56 ∷ 57 ∷ []

unfoldable pub rows : List (ℕ × ℕ)
rows =
    -- the hashes of `a`, by `hash` and by `small_hash`, and of `0123456789`
    (hash_of (97 ∷ []), 0x5f09_8055)
    ∷ (small_hash_of 1 97, 0x5f09_8055)
    ∷ (hash_of ten, 0x7217_3e7f)
    -- `small_word` of 0 to 8 bytes is their little-endian value
    ∷ (value_of [], 0)
    ∷ (value_of (1 ∷ 2 ∷ 3 ∷ []), 0x3_0201)
    ∷ []

pub all_hold : hold rows ≡ true
unfolding rows hold value_of mixed folded chunks hash_of small_hash_of
all_hold = refl
