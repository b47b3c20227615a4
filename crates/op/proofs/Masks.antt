-- The law of all masks: a word has no bit of a mask exactly where its parts are below the powers of two that the mask is made
-- of; and with it each mask of the code. Assumes nothing.
use Rattle.std.proofs.Common.{◌≡◌, ℕ, zero, suc, ◌+◌, ◌-◌, ◌*◌, ◌/◌, ◌%◌, ◌^◌, ◌<◌, ◌≤◌, Bool, true, false, ◌&&◌, eqb, ltb, leb, sym, refl, ap, ◌∙◌, subst, add-zero, le_of_lt, mod-lt, suc-mul, zero-mul, sub-add_cancel, arith, pow_pos, pow_mono, ltb-false, le-ltb, lt-ltb, eq-eqb, ne_eqb, leb-false, leb-true}
use mathlib.Core.Bool.{and-true}
use lib.Dec.{eqb-suc-zero}
use lib.Bits.{bit_and, and_block, and_high, and_zero_r}
use lib.Pow.{pow-sub-lt, split, mod-pow-add}
use Rattle.op.specs.Layout.{Parts, parts_of, holds, passes, is_alignment, Field, unused, register, switchKind, allocKind, alignment}
use Rattle.op.specs.Layout.{anyByte, anyNumber}
use Rattle.op.specs.Masks.{bits, from, mask_of, aligned, all_aligned}

-- ---- A mask and the bounds that it is made of ----

-- a number is zero where its digits are
sum_zero : (x y m : ℕ) → 0 < m → eqb (x * m + y) 0 ≡ (eqb y 0 && eqb x 0)
sum_zero zero zero m h = eq-eqb (zero * m + zero) 0 (omega (arith, zero-mul m))
sum_zero x (suc y) m h = rw (eqb-suc-zero y) (ne_eqb (x * m + suc y) 0 (λ e. omega arith))
sum_zero (suc x) zero m h = rw (eqb-suc-zero x) (ne_eqb (suc x * m + zero) 0 (λ e. omega (arith, suc-mul x m)))

-- a mask in two parts is tested part by part
parts : (w k hi lo : ℕ) → lo < 2 ^ k →
    eqb (bit_and w (hi * 2 ^ k + lo)) 0 ≡ (eqb (bit_and (w % 2 ^ k) lo) 0 && eqb (bit_and (w / 2 ^ k) hi) 0)
parts w k hi lo small =
    ap (λ (x : ℕ). eqb (bit_and x (hi * 2 ^ k + lo)) 0) (sym (split w k))
    ∙ ap (λ (x : ℕ). eqb x 0) (and_block k (w / 2 ^ k) hi (w % 2 ^ k) lo (mod-lt w (pow_pos k)) small)
    ∙ sum_zero (bit_and (w / 2 ^ k) hi) (bit_and (w % 2 ^ k) lo) (2 ^ k) (pow_pos k)

shifted : (w k hi : ℕ) → eqb (bit_and w (hi * 2 ^ k)) 0 ≡ eqb (bit_and (w / 2 ^ k) hi) 0
shifted w k hi =
    ap (λ (x : ℕ). eqb (bit_and w x) 0) (sym (add-zero (hi * 2 ^ k))) ∙ parts w k hi 0 (pow_pos k)
    ∙ ap (λ (x : ℕ). eqb x 0 && eqb (bit_and (w / 2 ^ k) hi) 0) (and_zero_r (w % 2 ^ k))

-- a number is below m where its high digit is zero
zero_high : (q m r : ℕ) → r < m → eqb (q * m) 0 ≡ ltb (q * m + r) m
zero_high zero m r h =
    eq-eqb (zero * m) 0 (zero-mul m) ∙ sym (lt-ltb (zero * m + r) m (omega (arith, zero-mul m)))
zero_high (suc q) m r h =
    ne_eqb (suc q * m) 0 (λ e. omega (arith, suc-mul q m)) ∙ sym (le-ltb (suc q * m + r) m (omega (arith, suc-mul q m)))

-- of `width` bits none from k on is set where they are below 2 ^ k
from_zero : (width k n : ℕ) → eqb (bit_and n (from width k)) 0 ≡ ltb (n % 2 ^ width) (2 ^ k)
from_zero width k n = go (leb k width) refl
  where
    Zero : ℕ → Type 0
    Zero width = eqb (bit_and n (from width k)) 0 ≡ ltb (n % 2 ^ width) (2 ^ k)

    wide : (j : ℕ) → Zero (j + k)
    wide j =
        ap (λ (x : ℕ). eqb x 0) (and_high n j k) ∙ zero_high (n / 2 ^ k % 2 ^ j) (2 ^ k) (n % 2 ^ k) (mod-lt n (pow_pos k))
        ∙ ap (λ (x : ℕ). ltb x (2 ^ k)) (sym (mod-pow-add n j k))

    go : (fits : Bool) → leb k width ≡ fits → Zero width
    go true h = subst Zero (sub-add_cancel (leb-true k width h)) (wide (width - k))
    go false h =
        let larger = pow_mono (le_of_lt (leb-false k width h)) in
        let small = mod-lt n (pow_pos width) in
        let empty : from width k ≡ 0 = omega arith in
        ap (λ (x : ℕ). eqb (bit_and n x) 0) empty ∙ ap (λ (x : ℕ). eqb x 0) (and_zero_r n) ∙ sym (lt-ltb (n % 2 ^ width) (2 ^ k) (omega arith))

-- bytes 1, 2 and 3 and the number in bytes 4 to 7 are below these
abbrev pub below : ℕ → ℕ → ℕ → ℕ → Parts → Bool
below one two three number p = ltb p.one one && ltb p.two two && ltb p.three three && ltb p.number number

pub masked : (a b c d w : ℕ) → eqb (bit_and w (mask_of a b c d)) 0 ≡ below (2 ^ a) (2 ^ b) (2 ^ c) (2 ^ d) (parts_of w)
masked a b c d w =
    let small-a = pow-sub-lt 8 (pow_pos a) in
    let small_b = pow-sub-lt 8 (pow_pos b) in
    let small-c = pow-sub-lt 8 (pow_pos c) in
    let mask₁ : ℕ = from 8 a * 2 ^ 8 in
    let mask₂ : ℕ = from 8 b * 2 ^ 16 + mask₁ in
    let mask₃ : ℕ = from 8 c * 2 ^ 24 + mask₂ in
    let w₃ : ℕ = w % 2 ^ 32 in
    let w₂ : ℕ = w₃ % 2 ^ 24 in
    let w₁ : ℕ = w₂ % 2 ^ 16 in
    let one : w₁ / 2 ^ 8 % 2 ^ 8 ≡ (parts_of w).one = omega arith in
    let two : w₂ / 2 ^ 16 % 2 ^ 8 ≡ (parts_of w).two = omega arith in
    let three : w₃ / 2 ^ 24 % 2 ^ 8 ≡ (parts_of w).three = omega arith in
    rw (
      parts w 32 (from 32 d) mask₃ (omega arith),
      parts w₃ 24 (from 8 c) mask₂ (omega arith),
      parts w₂ 16 (from 8 b) mask₁ (omega arith),
      shifted w₁ 8 (from 8 a),
      from_zero 8 a (w₁ / 2 ^ 8),
      from_zero 8 b (w₂ / 2 ^ 16),
      from_zero 8 c (w₃ / 2 ^ 24),
      from_zero 32 d (w / 2 ^ 32),
      one,
      two,
      three,
    )

-- ---- A field by its bound and its alignment ----

alignment_in : (n : ℕ) → is_alignment n ≡ (ltb n 256 && is_alignment n)
alignment_in n = go (ltb n 256) refl
  where
    other : 256 ≤ n → (k : ℕ) → k ≤ 8 → eqb n k ≡ false
    other large k small = ne_eqb n k (λ e. omega arith)

    go : (fits : Bool) → ltb n 256 ≡ fits → is_alignment n ≡ (fits && is_alignment n)
    go true h = refl
    go false h =
        let large = ltb-false n 256 h in
        rw (other large 1 (omega arith), other large 2 (omega arith), other large 4 (omega arith), other large 8 (omega arith))

by_bound : (f : Field) (n : ℕ) → holds f n ≡ (ltb n (2 ^ bits f) && aligned f n)
by_bound unused n = sym (and-true (ltb n 1))
by_bound register n = sym (and-true (ltb n 32))
by_bound switchKind n = sym (and-true (ltb n 2))
by_bound allocKind n = sym (and-true (ltb n 4))
by_bound alignment n = alignment_in n
by_bound anyByte n = sym (and-true (ltb n 256))
by_bound anyNumber n = sym (and-true (ltb n (2 ^ 32)))

apart : (a x b y : Bool) → ((a && x) && (b && y)) ≡ ((a && b) && (x && y))
apart true true b y = refl
apart true false true y = refl
apart true false false y = refl
apart false x b y = refl

all_apart : (a x b y c z d u : Bool) → ((a && x) && (b && y) && (c && z) && (d && u)) ≡ ((a && b && c && d) && (x && y && z && u))
all_apart a x b y c z d u = rw (apart a x b y, apart (a && b) (x && y) c z, apart (a && b && c) (x && y && z) d u)

by_bounds : (a b c d : Field) (p : Parts) →
    passes a b c d p ≡ (below (2 ^ bits a) (2 ^ bits b) (2 ^ bits c) (2 ^ bits d) p && all_aligned a b c d p)
by_bounds a b c d p = rw (by_bound a p.one, by_bound b p.two, by_bound c p.three, by_bound d p.number, all_apart)

-- what a mask says of a word, and what it leaves
pub by_mask : (a b c d : Field) (w : ℕ) →
    passes a b c d (parts_of w) ≡ (eqb (bit_and w (mask_of (bits a) (bits b) (bits c) (bits d))) 0 && all_aligned a b c d (parts_of w))
by_mask a b c d w = rw (masked (bits a) (bits b) (bits c) (bits d) w) (by_bounds a b c d (parts_of w))

-- ---- The masks of the formats ----

pub three-registers : (w : ℕ) → eqb (bit_and w 0xffffffffe0e0e000) 0 ≡ passes register register register unused (parts_of w)
three-registers = masked 5 5 5 0

pub two_and_number : (w : ℕ) → eqb (bit_and w 0x00000000ffe0e000) 0 ≡ passes register register unused anyNumber (parts_of w)
two_and_number = masked 5 5 0 32

pub two-registers : (w : ℕ) → eqb (bit_and w 0xffffffffffe0e000) 0 ≡ passes register register unused unused (parts_of w)
two-registers = masked 5 5 0 0

pub one_and_number : (w : ℕ) → eqb (bit_and w 0x00000000ffffe000) 0 ≡ passes register unused unused anyNumber (parts_of w)
one_and_number = masked 5 0 0 32

pub jump : (w : ℕ) → eqb (bit_and w 0xffffffff0000ff00) 0 ≡ passes unused anyByte anyByte unused (parts_of w)
jump = masked 0 8 8 0

pub jump_if_lem : (w : ℕ) → eqb (bit_and w 0xffffffff0000e000) 0 ≡ passes register anyByte anyByte unused (parts_of w)
jump_if_lem = masked 5 8 8 0

pub jump_immediate : (w : ℕ) → eqb (bit_and w 0x000000000000e000) 0 ≡ passes register anyByte anyByte anyNumber (parts_of w)
jump_immediate = masked 5 8 8 32

pub jump_two : (w : ℕ) → eqb (bit_and w 0xffffffe00000e000) 0 ≡ passes register anyByte anyByte register (parts_of w)
jump_two = masked 5 8 8 5

pub switch : (w : ℕ) → eqb (bit_and w 0x00000000ffe0fe00) 0 ≡ passes switchKind register unused anyNumber (parts_of w)
switch = masked 1 5 0 32

pub lookup : (w : ℕ) → eqb (bit_and w 0x00000000fee0e000) 0 ≡ passes register register switchKind anyNumber (parts_of w)
lookup = masked 5 5 1 32

pub only_number : (w : ℕ) → eqb (bit_and w 0x00000000ffffff00) 0 ≡ passes unused unused unused anyNumber (parts_of w)
only_number = masked 0 0 0 32

pub alloc : (w : ℕ) → (eqb (bit_and w 0x0000000000fce000) 0 && is_alignment (parts_of w).three)
    ≡ passes register allocKind alignment anyNumber (parts_of w)
alloc w = rw (by_mask register allocKind alignment anyNumber w, and-true)
