-- What `CastToInt` gives of a pattern, by the cases of IEEE 754, 3.4: its sign s, its biased exponent e and its trailing significand t.
-- Assumes nothing.
use Rattle.std.proofs.Common.{◌≡◌, ℕ, zero, suc, ◌+◌, ◌-◌, ◌*◌, ◌/◌, ◌%◌, ◌^◌, ◌<◌, ◌≤◌, min, Bool, true, false, cond, not, ◌&&◌, eqb, leb, ℤ, pos, negsuc, neg_ℤ, sym, refl, ap, ◌∙◌, inl, inr, lt_of_lt_of_le, mul_assoc, mul-le-mul, eq-or-lt_of_le, le-div_iff_mul-le, arith, pow_pos, pow_mono, pow-add, shl_lt, shr_lt, ne_eqb, le-leb}
use native.Mathlib.Nat.{div-eq_of_lt}
use lib.Ieee.{Float, nan, inf, fin, binary64, up, down, odd, of_fields, of_bits, to_signed, nan_bits}
use lib.Ieee.Bits.{nan_bits_is}
use lib.Ieee.Exact.{HasValue, odd_sign}
use lib.Ieee.Fits.{down_pos}
use lib.Ieee.Nearest.{div_same}
use borrow.Author.Tests.{not-false, lt-leb}
use Rattle.value.specs.Int.{pattern}
use Rattle.value.specs.Double.{double}
use Rattle.value.specs.Cast.{cast_to_int}
use Rattle.value.proofs.Nans.{only_nan}

-- ---- an integer by its sign and its size

-- the integer, or the nearer end of the range
abbrev within : Bool → ℕ → ℤ
within s v = cond s (neg_ℤ (pos (min v (2 ^ 63)))) (pos (min v (2 ^ 63 - 1)))

abbrev end : Bool → ℤ
end s = cond s (negsuc (2 ^ 63 - 1)) (pos (2 ^ 63 - 1))

past : (s : Bool) (v : ℕ) → 2 ^ 63 ≤ v → within s v ≡ end s
past true v h = ap (λ (n : ℕ). neg_ℤ (pos n)) least
  where
    least : min v (2 ^ 63) ≡ 2 ^ 63
    least = omega arith
past false v h = ap pos most
  where
    most : min v (2 ^ 63 - 1) ≡ 2 ^ 63 - 1
    most = omega arith

positive : (v : ℕ) → v < 2 ^ 63 → v ≡ pattern (within false v)
unfolding pattern
positive v h = omega arith

-- 0 - v modulo 2^64
negative : (v r : ℕ) → v < 2 ^ 63 → r < 2 ^ 64 → (r + v) % 2 ^ 64 ≡ 0 → r ≡ pattern (within true v)
unfolding pattern
negative zero r h k e = omega arith
negative (suc n) r h k e = rw inner (omega arith)
  where
    inner : min (suc n) (2 ^ 63) ≡ suc n
    inner = omega arith

-- ---- the size of 2^(e - 1023) × (1 + 2^-52 × t), toward zero

abbrev whole : ℕ → ℕ → ℕ
whole e t = (2 ^ 52 + t) * 2 ^ (e - 1) / 2 ^ 1074

below_one : (e t : ℕ) → e < 1023 → t < 2 ^ 52 → whole e t ≡ 0
below_one e t h k =
    div-eq_of_lt (lt_of_lt_of_le (shl_lt {a = 2 ^ 52 + t} 53 (e - 1) (omega arith)) (pow_mono {i = 53 + (e - 1)} {j = 1074} (omega arith)))

from-two_63 : (e t : ℕ) → 1086 ≤ e → 2 ^ 63 ≤ whole e t
from-two_63 e t h =
    (le-div_iff_mul-le (pow_pos 1074)).1
    (mul-le-mul {n₁ = 2 ^ 52} {m₁ = 2 ^ 1085} {n₂ = 2 ^ 52 + t} (omega arith) (pow_mono {i = 1085} {j = e - 1} (omega arith)))

-- the significand, with its leading bit at 2^63, and its last 63 - (e - 1023) digits cut off
abbrev cut : ℕ → ℕ → ℕ
cut e t = (2 ^ 63 + t * 2 ^ 11 % 2 ^ 64) / 2 ^ (63 - (e - 1023))

module _ (e t : ℕ) (low : 1023 ≤ e) (high : e < 1086) where
  cut_whole : t < 2 ^ 52 → cut e t ≡ whole e t
  cut_whole h =
      let k = 63 - (e - 1023) in
      ap (λ (x : ℕ). x / 2 ^ k) led
      ∙ div_same ((2 ^ 52 + t) * 2 ^ 11) (2 ^ k) ((2 ^ 52 + t) * 2 ^ (e - 1)) (2 ^ 1074) (pow_pos k) (pow_pos 1074)
      (mul_assoc (2 ^ 52 + t) (2 ^ 11) (2 ^ 1074)
      ∙ ap (λ (x : ℕ). (2 ^ 52 + t) * x) (ap (λ (n : ℕ). 2 ^ n) all ∙ pow-add 2 (e - 1) k)
      ∙ sym (mul_assoc (2 ^ 52 + t) (2 ^ (e - 1)) (2 ^ k)))
    where
      led : 2 ^ 63 + t * 2 ^ 11 % 2 ^ 64 ≡ (2 ^ 52 + t) * 2 ^ 11
      led = omega arith

      all : 1085 ≡ e - 1 + (63 - (e - 1023))
      all = omega arith

  cut_fits : t < 2 ^ 52 → cut e t < 2 ^ 63
  cut_fits h =
      let k = 63 - (e - 1023) in
      shr_lt 63 k (lt_of_lt_of_le {m = 2 ^ 64} (omega arith) (pow_mono {i = 64} {j = 63 + k} (omega arith)))

-- ---- the number of a sign, an exponent and a significand

of_size : (s : Bool) (x : Float) (a c : ℕ) → 0 < c → HasValue x s a c → to_signed 63 x ≡ within s (a / c)
unfolding to_signed
of_size s nan a c p h = absurd h
of_size s (inf t) a c p h = absurd h
of_size s (fin t m e) a c p h =
    ap (λ (b : Bool). within b (m * up e / down e)) h.0 ∙ ap (within s) (div_same (m * up e) (down e) a c (down_pos e) p h.1)

-- q * 2^k of the smallest numbers, 2^-1074
of_smallest : (s : Bool) (q k : ℕ) → to_signed 63 (odd 53 s q k 1074) ≡ within s (q * 2 ^ k / 2 ^ 1074)
of_smallest s q k = of_size s (odd 53 s q k 1074) (q * 2 ^ k) (2 ^ 1074) (pow_pos 1074) (odd_sign 53 s q k 1074)

-- b)
infinity : (s : Bool) (t : ℕ) → not (eqb t 0) ≡ false → to_signed 63 (of_fields binary64 s 2047 t) ≡ end s
unfolding of_fields to_signed
infinity s t h = rw (not-false (eqb t 0) h) (of s)
  where
    of : (s : Bool) → to_signed 63 (inf s) ≡ end s
    of true = refl
    of false = refl

-- c)
normal : (s : Bool) (e t : ℕ) → 1 ≤ e → e < 2047 → to_signed 63 (of_fields binary64 s e t) ≡ within s (whole e t)
unfolding of_fields
normal s zero t h k = absurd (omega arith)
normal s (suc x) t h k =
    ap (λ (b : Bool). to_signed 63 (cond b (cond (eqb t 0) (inf s) nan) (odd 53 s (2 ^ 52 + t) x 1074)))
    (ne_eqb (suc x) 2047 (λ (q : suc x ≡ 2047). omega arith))
    ∙ of_smallest s (2 ^ 52 + t) x
    ∙ ap (λ (k : ℕ). within s ((2 ^ 52 + t) * 2 ^ k / 2 ^ 1074)) less
  where
    less : x ≡ suc x - 1
    less = omega arith

-- d) and e)
subnormal : (s : Bool) (t : ℕ) → t < 2 ^ 52 → to_signed 63 (of_fields binary64 s 0 t) ≡ within s 0
unfolding of_fields
subnormal s t h =
    of_smallest s t 0
    ∙ ap (within s) (div-eq_of_lt (lt_of_lt_of_le (shl_lt 52 0 h) (pow_mono {i = 52} {j = 1074} (omega arith))))

at_end : (s : Bool) (e t : ℕ) → 1086 ≤ e → e < 2048 → (eqb e 2047 && not (eqb t 0)) ≡ false
    → to_signed 63 (of_fields binary64 s e t) ≡ end s
at_end s e t h k n = elim (eq-or-lt_of_le {n = e} {m = 2047} (omega arith)) [
  | inl q ↦ rw q (infinity s t (rw q at n))
  | inr l ↦ normal s e t (omega arith) l ∙ past s (whole e t) (from-two_63 e t h)
]

at_zero : (s : Bool) (e t : ℕ) → e < 1023 → t < 2 ^ 52 → to_signed 63 (of_fields binary64 s e t) ≡ within s 0
at_zero s zero t h k = subnormal s t k
at_zero s (suc x) t h k = normal s (suc x) t (omega arith) (omega arith) ∙ ap (within s) (below_one (suc x) t h k)

-- ---- the cast of a pattern

abbrev exponent : ℕ → ℕ
exponent p = p % 2 ^ 63 / 2 ^ 52

abbrev trailing : ℕ → ℕ
trailing p = p % 2 ^ 52

cast : (s : Bool) (p : ℕ) (z : ℤ) → leb (2 ^ 63) p ≡ s → to_signed 63 (of_fields binary64 s (exponent p) (trailing p)) ≡ z
    → pattern z ≡ cast_to_int p
unfolding of_bits
cast s p z h k = sym (ap (λ (b : Bool). pattern (to_signed 63 (of_fields binary64 b (exponent p) (trailing p)))) h ∙ ap pattern k)

-- a)
pub nan_is_0 : (p : ℕ) → nan_bits binary64 p ≡ true → 0 ≡ cast_to_int p
unfolding to_signed pattern
nan_is_0 p h = rw (only_nan (double p) (sym (nan_bits_is binary64 p) ∙ h)) refl

module _ (p : ℕ) (from : 1086 ≤ exponent p) (number : nan_bits binary64 p ≡ false) where
  pub top_end : p < 2 ^ 63 → 2 ^ 63 - 1 ≡ cast_to_int p
  unfolding pattern nan_bits
  top_end h = cast false p (end false) (lt-leb (2 ^ 63) p h) (at_end false (exponent p) (trailing p) from (omega arith) number)

  pub bottom_end : 2 ^ 63 ≤ p → 2 ^ 63 ≡ cast_to_int p
  unfolding pattern nan_bits
  bottom_end h = cast true p (end true) (le-leb (2 ^ 63) p h) (at_end true (exponent p) (trailing p) from (omega arith) number)

module _ (p : ℕ) (low : 1023 ≤ exponent p) (high : exponent p < 1086) where
  abbrev size : ℕ
  size = cut (exponent p) (trailing p)

  sized : (s : Bool) → leb (2 ^ 63) p ≡ s → pattern (within s size) ≡ cast_to_int p
  sized s h =
      let is_whole = cut_whole (exponent p) (trailing p) low high (omega arith) in
      cast s p (within s size) h (normal s (exponent p) (trailing p) (omega arith) (omega arith) ∙ ap (within s) (sym is_whole))

  size_fits : size < 2 ^ 63
  size_fits = cut_fits (exponent p) (trailing p) low high (omega arith)

  pub size-kept : p < 2 ^ 63 → size ≡ cast_to_int p
  size-kept h = positive size size_fits ∙ sized false (lt-leb (2 ^ 63) p h)

  pub size_negated : 2 ^ 63 ≤ p → (r : ℕ) → r < 2 ^ 64 → (r + size) % 2 ^ 64 ≡ 0 → r ≡ cast_to_int p
  size_negated h r k e = negative size r size_fits k e ∙ sized true (le-leb (2 ^ 63) p h)

pub below-one-is_0 : (p : ℕ) → exponent p < 1023 → 0 ≡ cast_to_int p
unfolding pattern
below-one-is_0 p h =
    none (leb (2 ^ 63) p)
    ∙ cast _ p (within (leb (2 ^ 63) p) 0) refl (at_zero _ (exponent p) (trailing p) h (omega arith))
  where
    none : (s : Bool) → 0 ≡ pattern (within s 0)
    none true = refl
    none false = refl
