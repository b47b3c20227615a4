-- Numbers as bytes: cut in two, read back, compared. Assumes nothing.
use mathlib.Core.Path.{◌≡◌, refl, sym, ap, ap₂, ◌∙◌}
use Prim.Native.Nat.{ℕ, zero, suc, ◌+◌, ◌-◌, ◌*◌, ◌/◌, ◌%◌, ◌^◌, ◌≤◌, ◌<◌}
use mathlib.Core.Bool.{Bool, true, false, ◌&&◌}
use mathlib.Core.List.{List, [], ◌∷◌, ◌++◌}
use native.Mathlib.Omega.{arith}
use native.Mathlib.Numerals.{add-one}
use native.Mathlib.Nat.{suc_inj, suc-add, zero-add, one-mul, div-div-eq-div-mul, mul_comm, mul_assoc}
use lib.ListN.{length, get_or, take, drop, replicate, length-drop, length-append}
use lib.Seq.{drop-cons, drop-drop, get_or-drop, length-take-le, take-add, take_all}
use lib.Dec.{eqb}
use lib.Pow.{pow-add}
use Rattle.std.proofs.Common.{lit<, lit≤, slice_index}
use Rattle.std.proofs.lemmas.List.{take_at}
use Rattle.std.specs.Int.{w64, byte_at, byte_worth, bytes_low_first, sum_through, from_le_bytes, to_le_bytes}
use borrow.Author.Tests.{eq-eqb, ne_eqb, eqb-true, eqb-false}
use Rattle.memory.specs.Bytes.{bytes_of, value_of, number}
use Rattle.memory.specs.Lists.{same, part}

-- every element is a byte
abbrev pub Bytes : List ℕ → Type 0
Bytes xs = (i : ℕ) → get_or xs i 0 < 256

pub bytes_drop : (a : ℕ) (xs : List ℕ) → Bytes xs → Bytes (drop a xs)
bytes_drop a xs h i = rw get_or-drop (h (a + i))

pub bytes_take : (n : ℕ) (xs : List ℕ) → Bytes xs → Bytes (take n xs)
bytes_take zero xs h i = omega arith
bytes_take (suc n) [] h i = omega arith
bytes_take (suc n) (x ∷ xs) h zero = h zero
bytes_take (suc n) (x ∷ xs) h (suc i) = bytes_take n xs (λ j. h (suc j)) i

power_suc : (k : ℕ) → 256 ^ suc k ≡ 256 ^ k * 256
power_suc k = ap (λ (j : ℕ). 256 ^ j) (sym (add-one k)) ∙ pow-add 256 k 1

-- ---- a number cut in two

value-append : (xs ys : List ℕ) → value_of (xs ++ ys) ≡ value_of xs + 256 ^ length xs * value_of ys
unfolding value_of
value-append [] ys = sym (zero-add (1 * value_of ys) ∙ one-mul (value_of ys))
value-append (x ∷ xs) ys =
    ap (λ (v : ℕ). x + 256 * v) (value-append xs ys) ∙ regroup x (value_of xs) (256 ^ length xs) (value_of ys)
    ∙ ap (λ (p : ℕ). x + 256 * value_of xs + p * value_of ys) (sym (power_suc (length xs)))
  where
    regroup : (x v p y : ℕ) → x + 256 * (v + p * y) ≡ x + 256 * v + p * 256 * y
    regroup x v p y = let e : p * 256 * y ≡ 256 * (p * y) = ap (λ (q : ℕ). q * y) (mul_comm p 256) ∙ mul_assoc 256 p y in omega (arith, e)

part_length : (a n : ℕ) (xs : List ℕ) → a + n ≤ length xs → length (part a n xs) ≡ n
part_length a n xs h = length-take-le n (drop a xs) (rw length-drop (omega arith))

-- the m lower bytes at a, and the n higher behind them
pub number-add : (m n a : ℕ) (xs : List ℕ) → a + m ≤ length xs → number (m + n) a xs ≡ number m a xs + 256 ^ m * number n (a + m) xs
number-add m n a xs h =
    ap value_of (take-add m n (drop a xs) ∙ ap (λ (l : List ℕ). part a m xs ++ take n l) (drop-drop m a xs))
    ∙ value-append (part a m xs) (part (a + m) n xs)
    ∙ ap (λ (k : ℕ). number m a xs + 256 ^ k * number n (a + m) xs) (part_length a m xs h)

pub number-one : (a : ℕ) (xs : List ℕ) → a < length xs → number 1 a xs ≡ get_or xs a 0
unfolding value_of
number-one a xs h = rw (drop-cons xs a 0) (omega arith)

bytes_of-add : (m n v : ℕ) → bytes_of (m + n) v ≡ bytes_of m v ++ bytes_of n (v / 256 ^ m)
unfolding bytes_of
bytes_of-add zero n v = ap₂ bytes_of (zero-add n) (omega arith)
bytes_of-add (suc m) n v =
    ap (λ (k : ℕ). bytes_of k v) (suc-add m n)
    ∙ ap (λ (l : List ℕ). v % 256 ∷ l)
    (bytes_of-add m n (v / 256)
    ∙ ap (λ (w : ℕ). bytes_of m (v / 256) ++ bytes_of n w)
    (div-div-eq-div-mul v 256 (256 ^ m) ∙ ap (λ (p : ℕ). v / p) (mul_comm 256 (256 ^ m) ∙ sym (power_suc m))))

pub length-bytes_of : (k v : ℕ) → length (bytes_of k v) ≡ k
unfolding bytes_of
length-bytes_of zero v = refl
length-bytes_of (suc k) v = ap suc (length-bytes_of k (v / 256))

-- ---- as the number types read and write them

sum-number : (k : ℕ) (bs : List ℕ) → k < length bs → sum_through (λ i. byte_worth i (slice_index bs i)) k ≡ number (suc k) 0 bs
sum-number zero bs h = sym (number-one 0 bs h)
sum-number (suc k) bs h =
    let one : number 1 (suc k) bs ≡ slice_index bs (suc k) = number-one (suc k) bs h in
    let more = number-add (suc k) 1 0 bs (omega arith) in
    rw (sum-number k bs (omega arith), mul_comm (slice_index bs (suc k)) (256 ^ suc k), ← one, ← add-one (suc k), more, zero-add) refl

value-zeros : (n k : ℕ) → value_of (drop n (replicate k 0)) ≡ 0
unfolding value_of
value-zeros zero zero = refl
value-zeros (suc n) zero = refl
value-zeros zero (suc k) = omega (arith, value-zeros zero k)
value-zeros (suc n) (suc k) = value-zeros n k

pub from_le_bytes-value : (bs : List ℕ) → length bs ≡ 8 → from_le_bytes w64 bs ≡ value_of bs
from_le_bytes-value bs e = sum-number 7 bs (rw e (lit< tt)) ∙ ap value_of (take_all 8 bs (rw e (lit≤ tt)))

-- up to 8 bytes, and zeros behind them
from_le_bytes-padded : (n : ℕ) (xs : List ℕ) → length xs ≡ n → n ≤ 8 → from_le_bytes w64 (xs ++ drop n (replicate 8 0)) ≡ value_of xs
from_le_bytes-padded n xs e h =
    let l : length (xs ++ drop n (replicate 8 0)) ≡ 8 = rw (length-append, length-drop) (omega arith) in
    from_le_bytes-value (xs ++ drop n (replicate 8 0)) l ∙ value-append xs (drop n (replicate 8 0)) ∙ rw (value-zeros n 8) (omega arith)

byte_at-is : (i v : ℕ) → byte_at i v ≡ v / 256 ^ i % 256
byte_at-is zero v = omega arith
byte_at-is (suc i) v = refl

bytes_low_first-is : (i k v : ℕ) → bytes_low_first i k v ≡ bytes_of k (v / 256 ^ i)
unfolding bytes_of
bytes_low_first-is i zero v = refl
bytes_low_first-is i (suc k) v =
    ap₂ ◌∷◌ (byte_at-is i v)
    (bytes_low_first-is (suc i) k v
    ∙ ap (bytes_of k) (sym (div-div-eq-div-mul v (256 ^ i) 256 ∙ ap (λ (p : ℕ). v / p) (sym (power_suc i)))))

-- the lowest of a number's 8 bytes
pub take-to_le_bytes : (n v : ℕ) → n ≤ 8 → take n (to_le_bytes w64 v) ≡ bytes_of n v
take-to_le_bytes n v h =
    let e : n + (8 - n) ≡ 8 = omega arith in
    let whole : to_le_bytes w64 v ≡ bytes_of 8 v = bytes_low_first-is 0 8 v ∙ ap (bytes_of 8) (omega arith) in
    ap (take n) (whole ∙ ap (λ (k : ℕ). bytes_of k v) (sym e) ∙ bytes_of-add n (8 - n) v)
    ∙ take_at (bytes_of n v) (bytes_of (8 - n) (v / 256 ^ n)) n (length-bytes_of n v)

-- ---- read back

pub bytes-bytes_of : (k v : ℕ) → Bytes (bytes_of k v)
unfolding bytes_of
bytes-bytes_of zero v i = omega arith
bytes-bytes_of (suc k) v zero = omega arith
bytes-bytes_of (suc k) v (suc i) = bytes-bytes_of k (v / 256) i

lower : (v p q : ℕ) → q ≡ p * 256 → v < q → v / 256 < p
lower v p q e h = omega arith

pub value-bytes_of : (k v : ℕ) → v < 256 ^ k → value_of (bytes_of k v) ≡ v
unfolding value_of bytes_of
value-bytes_of zero v h = omega arith
value-bytes_of (suc k) v h =
    let e = value-bytes_of k (v / 256) (lower v (256 ^ k) (256 ^ suc k) (power_suc k) h) in
    omega (arith, e)

value-lt : (xs : List ℕ) → Bytes xs → value_of xs < 256 ^ length xs
unfolding value_of
value-lt [] h = omega arith
value-lt (x ∷ xs) h =
    let b = h zero in
    let e = power_suc (length xs) in
    let below = value-lt xs (λ i. h (suc i)) in
    omega arith

number-lt : (a n : ℕ) (xs : List ℕ) → Bytes xs → a + n ≤ length xs → number n a xs < 256 ^ n
number-lt a n xs b h = rw (part_length a n xs h) at (value-lt (part a n xs) (bytes_take n (drop a xs) (bytes_drop a xs b)))

-- v is the number of the n bytes at a
pub record Loaded (xs : List ℕ) (a n v : ℕ) : Type 0 where
  pub is : v ≡ number n a xs
  pub small : v < 256 ^ n

-- they were copied over zeros, and read
pub loaded : (xs : List ℕ) (a n v : ℕ) (copied : List ℕ) → Bytes xs → n ≤ 8 → a + n ≤ length xs → copied ≡ take (a + n - a) (drop a xs)
    → v ≡ from_le_bytes w64 (copied ++ drop n (replicate 8 0)) → Loaded xs a n v
loaded xs a n v copied b h k e q =
    let m : a + n - a ≡ n = omega arith in
    let p : copied ≡ part a n xs = e ∙ ap (λ (j : ℕ). take j (drop a xs)) m in
    let r : v ≡ number n a xs = q ∙ rw p (from_le_bytes-padded n (part a n xs) (part_length a n xs k) h) in
    record { is = r; small = rw r (number-lt a n xs b k) }

-- ---- compared

digit : (x y a b : ℕ) → x < 256 → y < 256 → x + 256 * a ≡ y + 256 * b → (x ≡ y) × (a ≡ b)
digit x y a b h k e = (omega arith, omega arith)

eqb_digit : (x y a b : ℕ) (t u : Bool) → x < 256 → y < 256 → eqb x y ≡ t → eqb a b ≡ u → eqb (x + 256 * a) (y + 256 * b) ≡ (t && u)
eqb_digit x y a b true true h k p q = eq-eqb (x + 256 * a) (y + 256 * b) (rw (eqb-true x y p, eqb-true a b q) refl)
eqb_digit x y a b true false h k p q = ne_eqb _ _ (λ e. eqb-false _ _ q (digit x y a b h k e).1)
eqb_digit x y a b false u h k p q = ne_eqb _ _ (λ e. eqb-false _ _ p (digit x y a b h k e).0)

-- equal as numbers is equal byte by byte
pub value_same : (xs ys : List ℕ) → Bytes xs → Bytes ys → length xs ≡ length ys → eqb (value_of xs) (value_of ys) ≡ same xs ys
unfolding value_of same
value_same [] [] h k e = refl
value_same [] (y ∷ ys) h k e = absurd (omega arith)
value_same (x ∷ xs) [] h k e = absurd (omega arith)
value_same (x ∷ xs) (y ∷ ys) h k e = eqb_digit x y (value_of xs) (value_of ys) _ _ (h zero) (k zero) refl
    (value_same xs ys (λ i. h (suc i)) (λ i. k (suc i)) (suc_inj e))
