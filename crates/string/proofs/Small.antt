-- At most 8 bytes as one word. Assumes nothing.
use mathlib.Core.Path.{◌≡◌, refl, sym, ap, ap₂, ◌∙◌}
use mathlib.Core.List.{List, [], ◌∷◌}
use Prim.Native.Nat.{ℕ, zero, suc, ◌+◌, ◌*◌, ◌/◌, ◌%◌, ◌^◌, ◌≤◌, ◌<◌}
use native.Mathlib.Nat.{not-suc-le-zero, le_of_suc-le-suc}
use native.Mathlib.Omega.{arith}
use lib.ListN.{length, take}
use lib.Seq.{take-length}
use lib.Bits.{bit_or, or_shifted}
use Rattle.memory.specs.Bytes.{bytes_of, value_of, number}
use Rattle.memory.proofs.Bytes.{Bytes, bytes_take, bytes-bytes_of, take-to_le_bytes, length-bytes_of, value-bytes_of, value_same}
use Rattle.std.specs.Int.{w64, to_le_bytes}
use lib.Dec.{eqb}
use Rattle.memory.specs.Lists.{same}
use Rattle.string.specs.Hash.{rotated, mixed, folded, chunks, hash_of, small_hash_of}
use Rattle.string.specs.Payload.{small_name}
use Rattle.string.proofs.Chunks.{left, one_chunk}

pub rotates : (x : ℕ) → x < 2 ^ 64 → bit_or (x * 2 ^ 5 % 2 ^ 64) (x / 2 ^ 59) ≡ rotated x
rotates x h = ap (λ (y : ℕ). bit_or y (x / 2 ^ 59)) (moved x) ∙ or_shifted (x % 2 ^ 59) 5 (x / 2 ^ 59) (omega arith)
    ∙ ap (λ (y : ℕ). y + x / 2 ^ 59) (sym (moved x))
  where
    moved : (x : ℕ) → x * 2 ^ 5 % 2 ^ 64 ≡ x % 2 ^ 59 * 2 ^ 5
    moved x = omega arith

-- a whole list as a number of its length
pub whole : (n : ℕ) (xs : List ℕ) → length xs ≡ n → number n 0 xs ≡ value_of xs
whole n xs e = ap (λ (k : ℕ). value_of (take k xs)) (sym e) ∙ ap value_of (take-length xs)

-- ---- the name of a small word

pub small_name_lem : (len m word : ℕ) → len ≤ m → take len (bytes_of m word) ≡ bytes_of len word
unfolding bytes_of
small_name_lem zero m word h = refl
small_name_lem (suc len) zero word h = absurd (not-suc-le-zero h)
small_name_lem (suc len) (suc m) word h = ap (λ (l : List ℕ). word % 256 ∷ l) (small_name_lem len m (word / 256) (le_of_suc-le-suc h))

pub small_length : (len word : ℕ) → len ≤ 8 → length (small_name len word) ≡ len
small_length len word h = ap length (small_name_lem len 8 word h) ∙ length-bytes_of len word

pub small_value : (len word : ℕ) → len ≤ 8 → word < 256 ^ len → value_of (small_name len word) ≡ word
small_value len word h k = ap value_of (small_name_lem len 8 word h) ∙ value-bytes_of len word k

empty_agrees : small_hash_of 0 (value_of []) ≡ hash_of []
unfolding small_hash_of hash_of mixed folded chunks value_of
empty_agrees = refl

-- 'the plain and small hashes agree there'
pub small_agrees : (bs : List ℕ) → length bs ≤ 8 → small_hash_of (length bs) (value_of bs) ≡ hash_of bs
unfolding small_hash_of hash_of left
small_agrees [] h = empty_agrees
small_agrees (b ∷ bs) h = ap folded (sym (one_chunk (length (b ∷ bs)) (b ∷ bs) (omega arith) h))

pub small_hash_is : (len word : ℕ) → len ≤ 8 → word < 256 ^ len → small_hash_of len word ≡ hash_of (small_name len word)
small_hash_is len word h k =
    ap₂ small_hash_of (sym (small_length len word h)) (sym (small_value len word h k))
    ∙ small_agrees (small_name len word) (rw (small_length len word h) h)

-- the bytes of a word, as the number type gives them
pub small_taken : (len word : ℕ) → len ≤ 8 → take len (to_le_bytes w64 word) ≡ small_name len word
small_taken len word h = take-to_le_bytes len word h ∙ sym (small_name_lem len 8 word h)

-- bytes are those of a word if their number is the word
pub small_same : (len word : ℕ) → len ≤ 8 → word < 256 ^ len → (s : List ℕ) → Bytes s → length s ≡ length (small_name len word) → (x : ℕ)
    → x ≡ value_of s → eqb x word ≡ same s (small_name len word)
small_same len word few pad s bs l x q =
    let named : Bytes (small_name len word) = bytes_take len (bytes_of 8 word) (bytes-bytes_of 8 word) in
    ap₂ eqb q (sym (small_value len word few pad)) ∙ value_same s (small_name len word) bs named l
