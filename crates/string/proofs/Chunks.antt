-- The hash, chunk by chunk. Assumes nothing.
use mathlib.Core.Path.{◌≡◌, refl, sym, ap, ap₂, ◌∙◌}
use mathlib.Core.List.{List, [], ◌∷◌}
use Prim.Native.Nat.{ℕ, zero, suc, ◌+◌, ◌-◌, ◌*◌, ◌/◌, ◌≤◌, ◌<◌}
use native.Mathlib.Nat.{not-suc-le-zero, le_of_suc-le-suc, le_refl, le_trans}
use native.Mathlib.Omega.{arith}
use lib.ListN.{length, get_or, take, drop, length-drop}
use lib.Seq.{take_all, drop-drop, length-take-le}
use Rattle.std.specs.Int.{w64, from_le_bytes}
use Rattle.std.specs.Simd.{first_chunks}
use Rattle.memory.specs.Bytes.{value_of}
use Rattle.memory.proofs.Bytes.{from_le_bytes-value}
use Rattle.string.specs.Hash.{mixed, folded, chunks, hash_of}

rest_le : (b : ℕ) (bs : List ℕ) → length (drop 8 (b ∷ bs)) ≤ length bs
rest_le b bs = let e = length-drop 8 (b ∷ bs) in less (length (drop 8 (b ∷ bs))) (length bs) e
  where
    less : (r n : ℕ) → r ≡ suc n - 8 → r ≤ n
    less r n e = omega arith

-- any fuel that is enough gives the same
agree : (f g h : ℕ) (bs : List ℕ) → length bs ≤ f → length bs ≤ g → chunks f h bs ≡ chunks g h bs
unfolding chunks
agree zero zero h bs p q = refl
agree zero (suc g) h [] p q = refl
agree zero (suc g) h (b ∷ bs) p q = absurd (not-suc-le-zero p)
agree (suc f) zero h [] p q = refl
agree (suc f) zero h (b ∷ bs) p q = absurd (not-suc-le-zero q)
agree (suc f) (suc g) h [] p q = refl
agree (suc f) (suc g) h (b ∷ bs) p q =
    agree f g (mixed h (value_of (take 8 (b ∷ bs)))) (drop 8 (b ∷ bs)) (le_trans (rest_le b bs) (le_of_suc-le-suc p))
    (le_trans (rest_le b bs) (le_of_suc-le-suc q))

-- the hash so far, with the chunks of bs still to come
unfoldable pub left : ℕ → List ℕ → ℕ
left h bs = chunks (length bs) h bs

turn : (h : ℕ) (bs : List ℕ) → 0 < length bs → left h bs ≡ left (mixed h (value_of (take 8 bs))) (drop 8 bs)
unfolding left chunks
turn h [] p = absurd (not-suc-le-zero p)
turn h (b ∷ bs) p = agree (length bs) (length (drop 8 (b ∷ bs))) (mixed h (value_of (take 8 (b ∷ bs)))) (drop 8 (b ∷ bs)) (rest_le b bs)
    (le_refl (length (drop 8 (b ∷ bs))))

none_left : (h : ℕ) (bs : List ℕ) → length bs ≤ 0 → left h bs ≡ h
unfolding left chunks
none_left h [] p = refl
none_left h (b ∷ bs) p = absurd (not-suc-le-zero p)

-- at most 8 bytes are one chunk
pub one_chunk : (h : ℕ) (bs : List ℕ) → 0 < length bs → length bs ≤ 8 → left h bs ≡ mixed h (value_of bs)
one_chunk h bs p q =
    turn h bs p
    ∙ ap (λ (l : List ℕ). left (mixed h (value_of l)) (drop 8 bs)) (take_all 8 bs q)
    ∙ none_left (mixed h (value_of bs)) (drop 8 bs) (rw length-drop (omega arith))

-- the hash of `bytes` is h with what comes from `at` on still to be taken in
pub record Hashing (bytes : List ℕ) (h at : ℕ) : Type 0 where
  pub within : at ≤ length bytes
  pub is : left h (drop at bytes) ≡ left (length bytes) bytes

-- a whole chunk, by its place among the chunks
chunk_at : (k n : ℕ) (xs d : List ℕ) → k < n → get_or (first_chunks 8 n xs) k d ≡ take 8 (drop (k * 8) xs)
chunk_at k zero xs d h = absurd (omega arith)
chunk_at zero (suc n) xs d h = refl
chunk_at (suc k) (suc n) xs d h =
    let e : 8 + k * 8 ≡ suc k * 8 = omega arith in
    chunk_at k n (drop 8 xs) d (omega arith) ∙ ap (take 8) (drop-drop (k * 8) 8 xs ∙ ap (λ (i : ℕ). drop i xs) e)

module _ (bytes : List ℕ) where
  pub hash_start : Hashing bytes (length bytes) (0 * 8)
  hash_start = record { within = omega arith; is = refl }

  -- the whole chunks, and what is behind them
  module _ (chunks : List (List ℕ)) (fronts : chunks ≡ first_chunks 8 (length bytes / 8) bytes) (many : length chunks ≡ length bytes / 8)
      (h k : ℕ) (g : Hashing bytes h (k * 8)) where
    pub hash_whole : (d : List ℕ) (w r : ℕ) → k < length chunks → w ≡ from_le_bytes w64 (get_or chunks k d) → r ≡ mixed h w
        → Hashing bytes r ((k + 1) * 8)
    hash_whole d w r l p q =
        let at = k * 8 in
        let room : at + 8 ≤ length bytes = omega arith in
        let some : 0 < length (drop at bytes) = rw length-drop (omega arith) in
        let chunk : get_or chunks k d ≡ take 8 (drop at bytes) =
        ap (λ cs. get_or cs k d) fronts ∙ chunk_at k (length bytes / 8) bytes d (omega arith) in
        let long : length (take 8 (drop at bytes)) ≡ 8 = length-take-le 8 (drop at bytes) (rw length-drop (omega arith)) in
        let word : w ≡ value_of (take 8 (drop at bytes)) = p ∙ ap (from_le_bytes w64) chunk ∙ from_le_bytes-value (take 8 (drop at bytes)) long in
        let next : at + 8 ≡ (k + 1) * 8 = omega arith in
        rw (← next) (record {
          within = room;
          is = ap₂ left (q ∙ ap (mixed h) word) (sym (drop-drop 8 at bytes)) ∙ sym (turn h (drop at bytes) some) ∙ g.is;
        })

    module _ (tail : List ℕ) (back : tail ≡ drop (length bytes / 8 * 8) bytes) (l : length chunks ≤ k) where
      at_end : drop (k * 8) bytes ≡ tail
      at_end =
          let within = g.within in
          let e : k ≡ length bytes / 8 = omega arith in
          ap (λ (i : ℕ). drop (i * 8) bytes) e ∙ sym back

      pub hash_last : (w x r : ℕ) → (length tail ≡ 0 → ⊥) → length tail ≤ 8 → w ≡ value_of tail → x ≡ mixed h w → r ≡ folded x → r ≡ hash_of bytes
      unfolding hash_of left
      hash_last w x r some few p q e =
          e ∙ ap folded (q ∙ ap (mixed h) p ∙ sym (one_chunk h tail (omega arith) few) ∙ ap (left h) (sym at_end) ∙ g.is)

      pub hash_end : (r : ℕ) → length tail ≡ 0 → r ≡ folded h → r ≡ hash_of bytes
      unfolding hash_of left
      hash_end r none e = e ∙ ap folded (sym (none_left h tail (omega arith)) ∙ ap (left h) (sym at_end) ∙ g.is)
