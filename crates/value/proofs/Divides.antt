-- What the machine asks of a division of two signed integers, and the three answers of `divided`. Assumes nothing.
use Rattle.std.proofs.Common.{◌≡◌, ℕ, zero, suc, ◌-◌, ◌/◌, ◌^◌, ◌<◌, ◌≤◌, Bool, true, false, cond, ◌&&◌, ℤ, pos, negsuc, neg_ℤ, sym, refl, ap, ◌∙◌, ap₂, true≢false, zero-le, le_trans, lt_of_lt_of_le, le_of_suc-le-suc, lt_of_le_of_lt, zero-lt-suc, div-le_self, div-one, arith, to_z-of_z, w64, Fits, SFits, of_z, eq-eqb, ne_eqb, eqb, Result, Ok, Err}
use Rattle.std.proofs.lemmas.Bool.{eqb-false}
use native.Mathlib.Nat.{div-lt_self, le-suc}
use lib.Signed.{mag, quot_z, rem_z, mag_rem}
use mir.Facts.{of_z-to_z}
use Rattle.value.specs.declared.int.DivisionError.{DivisionError}
use Rattle.value.specs.declared.int.DivisionError.TheVariants.{ByZero, Overflow}
use Rattle.value.specs.Int.{signed, pattern, overflows, divided, operands_of}
use Rattle.value.proofs.Patterns.{held, to_z_signed, signed-fits}

-- ---- which quotients are in the range

mag_neg : (r : ℕ) {a : ℕ} → r ≤ suc a → mag (neg_ℤ (pos r)) ≤ a
mag_neg zero h = zero-le
mag_neg (suc r) h = le_of_suc-le-suc h

not_least : (a : ℕ) → a < 2 ^ 63 → (a ≡ 2 ^ 63 - 1 → ⊥) → suc a < 2 ^ 63
not_least a h n = omega arith

two : (b : ℕ) → 1 < suc (suc b)
two b = omega arith

-- all but that of -2^63 by -1
quotient_small : (x y : ℤ) → mag x < 2 ^ 63 → (x ≡ negsuc (2 ^ 63 - 1) → y ≡ negsuc 0 → ⊥) → mag (quot_z x y) < 2 ^ 63
quotient_small (pos a) (pos b) h n = lt_of_le_of_lt (div-le_self a b) h
quotient_small (pos a) (negsuc b) h n = lt_of_le_of_lt (mag_neg (a / suc b) (le_trans (div-le_self a (suc b)) (le-suc a))) h
quotient_small (negsuc a) (pos b) h n = lt_of_le_of_lt (mag_neg (suc a / b) (div-le_self (suc a) b)) h
quotient_small (negsuc a) (negsuc zero) h n = rw (div-one (suc a)) (not_least a h (λ e. n (ap negsuc e) refl))
quotient_small (negsuc a) (negsuc (suc b)) h n = lt_of_lt_of_le (div-lt_self {n = suc a} {k = suc (suc b)} (zero-lt-suc a) (two b)) h

-- the bits are those of the integer that they stand for
back : (a : ℕ) (z : ℤ) → Fits w64 a → signed a ≡ z → a ≡ of_z w64 z
back a z f e = sym (of_z-to_z f) ∙ ap (of_z w64) (to_z_signed a ∙ e)

no_overflow : (a b : ℕ) → Fits w64 a → Fits w64 b → overflows a b ≡ false
    → signed a ≡ negsuc (2 ^ 63 - 1) → signed b ≡ negsuc 0 → ⊥
no_overflow a b f g o p q =
    let least = eq-eqb a (2 ^ 63) (back a (negsuc (2 ^ 63 - 1)) f p) in
    let minus_one = eq-eqb b (2 ^ 64 - 1) (back b (negsuc 0) g q) in
    true≢false (sym (ap₂ ◌&&◌ least minus_one) ∙ o)

-- ---- the answers, of any operation

-- what was divided passed both tests
record Passed (a b : ℕ) (x y : ℤ) : Type 0 where
  divisor : b ≡ 0 → ⊥
  quotient : overflows a b ≡ false
  left : x ≡ signed a
  right : y ≡ signed b

operands_by : Bool → Bool → ℤ × ℤ → Result (ℤ × ℤ) DivisionError
operands_by s t both = cond s (Err ByZero) (cond t (Err Overflow) (Ok both))

passed : (a b : ℕ) (p : ℤ × ℤ) → Ok p ≡ operands_of a b → Passed a b p.0 p.1
unfolding operands_of operands_by
passed a b p = go (eqb b 0) (overflows a b) refl refl
  where
    go : (s t : Bool) → eqb b 0 ≡ s → overflows a b ≡ t → Ok p ≡ operands_by s t (signed a, signed b) → Passed a b p.0 p.1
    go true t q r e = cc
    go false true q r e = cc
    go false false q r e =
        let same : p ≡ (signed a, signed b) = cc in
        record { divisor = eqb-false b 0 q; quotient = r; left = ap (λ (o : ℤ × ℤ). o.0) same; right = ap (λ (o : ℤ × ℤ). o.1) same }

module _ (op : ℤ → ℤ → ℤ) (a b : ℕ) where
  answer : Bool → Bool → Result ℕ DivisionError
  answer s t = cond s (Err ByZero) (cond t (Err Overflow) (Ok (pattern (op (signed a) (signed b)))))

  pub refused : (e : DivisionError) → Err e ≡ operands_of a b → Err e ≡ divided op a b
  unfolding operands_of operands_by divided answer
  refused e = go (eqb b 0) (overflows a b)
    where
      go : (s t : Bool) → Err e ≡ operands_by s t (signed a, signed b) → Err e ≡ answer s t
      go true t p = cc
      go false true p = cc
      go false false p = cc

  exactly : (b ≡ 0 → ⊥) → overflows a b ≡ false → Ok (pattern (op (signed a) (signed b))) ≡ divided op a b
  unfolding divided answer
  exactly n o = sym (ap₂ answer (ne_eqb b 0 n) o)

-- x and y are what was read from a and b
module _ (a b : ℕ) {x y : ℤ} (f : Fits w64 a) (g : Fits w64 b) (is : let p : ℤ × ℤ = (x, y) in Ok p ≡ operands_of a b) where
  both_read : Passed a b x y
  both_read = passed a b (x, y) is

  held_x : held x ≡ signed a
  held_x = rw both_read.left (to_z-of_z (signed-fits f))

  held_y : held y ≡ signed b
  held_y = rw both_read.right (to_z-of_z (signed-fits g))

  quotient_fits : SFits w64 (quot_z (signed a) (signed b))
  quotient_fits = record { sfits = quotient_small (signed a) (signed b) (signed-fits f).sfits (no_overflow a b f g both_read.quotient) }

  -- the machine asks two things, of a remainder too: a divisor other than 0, and that the quotient fits
  pub divisor_above_zero : 0 < of_z w64 y
  divisor_above_zero = above (back b y g (sym both_read.right))
    where
      above : {k : ℕ} → b ≡ k → 0 < k
      above e = let n = both_read.divisor in omega (arith, n)

  pub quotient_in_range : SFits w64 (quot_z (held x) (held y))
  quotient_in_range = rw (held_x, held_y) quotient_fits

  exact : (op : ℤ → ℤ → ℤ) → SFits w64 (op (signed a) (signed b))
      → {r : ℕ} → r ≡ pattern (held (op (held x) (held y))) → Ok r ≡ divided op a b
  exact op h r =
      ap Ok (r ∙ ap pattern (ap₂ (λ (s t : ℤ). held (op s t)) held_x held_y ∙ to_z-of_z h)) ∙ exactly op a b both_read.divisor both_read.quotient

  pub quotient : {r : ℕ} → r ≡ pattern (held (quot_z (held x) (held y))) → Ok r ≡ divided quot_z a b
  quotient = exact quot_z quotient_fits

  pub remainder : {r : ℕ} → r ≡ pattern (held (rem_z (held x) (held y))) → Ok r ≡ divided rem_z a b
  remainder = exact rem_z (record { sfits = lt_of_le_of_lt (mag_rem (signed a) (signed b)) (signed-fits f).sfits })
