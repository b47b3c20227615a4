-- A NaN by its pattern, by the test `x != x`, and in `bits`. Assumes nothing.
use Rattle.std.proofs.Common.{◌≡◌, ℕ, ◌%◌, ◌^◌, ◌<◌, ◌≤◌, true, false, not, T, sym, refl, ◌∙◌, subst, true≢false, le-ltb, lt-ltb}
use lib.Ieee.{Float, nan, inf, fin, binary64, is_nan, nan_bits, of_bits, ne, div}
use lib.Ieee.Bits.{nan_bits_is, nan_bits_above}
use lib.Ieee.Compare.{differs_from_itself, nan_differs}
use Rattle.value.specs.Double.{double, bits}

-- ---- from bits

-- 0 / 0, by which the program makes a NaN
abbrev quiet : Float
quiet = div binary64 (of_bits binary64 0) (of_bits binary64 0)

made : quiet ≡ nan
unfolding div of_bits
made = refl

pub only_nan : (x : Float) → is_nan x ≡ true → x ≡ nan
unfolding is_nan
only_nan nan h = refl
only_nan (inf s) h = absurd (true≢false (sym h))
only_nan (fin s m e) h = absurd (true≢false (sym h))

-- without its sign a NaN's pattern is above that of an infinity, and no other is
pub above_infinity : (p : ℕ) → 0x7ff0_0000_0000_0000 < p % 2 ^ 63 → quiet ≡ double p
above_infinity p h =
    let found = nan_bits_above binary64 p ∙ lt-ltb 0x7ff0_0000_0000_0000 (p % 2 ^ 63) h in
    made ∙ sym (only_nan (double p) (sym (nan_bits_is binary64 p) ∙ found))

pub up_to_infinity : (p : ℕ) → p % 2 ^ 63 ≤ 0x7ff0_0000_0000_0000 → T (not (nan_bits binary64 p))
up_to_infinity p h = rw (nan_bits_above binary64 p, le-ltb 0x7ff0_0000_0000_0000 (p % 2 ^ 63) h) tt

-- ---- to bits

differs : (x : Float) → ne x x ≡ true → x ≡ nan
differs x h = differs_from_itself x (subst T (sym h) tt)

pub no_nan : (x : Float) → ne x x ≡ false → T (not (is_nan x))
unfolding is_nan
no_nan nan h = absurd (true≢false (sym nan_differs ∙ h))
no_nan (inf s) h = tt
no_nan (fin s m e) h = tt

pub bits_nan : (x : Float) → ne x x ≡ true → 0x7ff8_0000_0000_0000 ≡ bits x
unfolding bits is_nan
bits_nan x h = rw (differs x h) refl
