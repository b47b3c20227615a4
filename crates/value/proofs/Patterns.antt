-- Two's complement: `signed` and `pattern` against the machine, which holds a signed integer as its bits, writes them by `of_z`
-- and reads them by `to_z`. Assumes nothing.
use Rattle.std.proofs.Common.{◌≡◌, ℕ, suc, ◌-◌, ◌^◌, ◌<◌, Bool, true, false, cond, ltb, ℤ, pos, negsuc, refl, subst, to_z-of_z, w64, Fits, SFits, to_z, of_z}
use lib.Signed.{mag}
use mir.Val.{sel}
use mir.Facts.{sfits_to_z}
use Rattle.value.specs.Int.{signed, pattern}

-- what the machine reads where it has written z
abbrev pub held : ℤ → ℤ
held z = to_z w64 (of_z w64 z)

-- an integer of 64 bits is read as it was written
pub kept : (z : ℤ) → mag z < 2 ^ 63 → held z ≡ z
kept z h = to_z-of_z {w = w64} {z = z} (record { sfits = h })

-- ---- from bits to an integer

by_test : (b : Bool) (x y : ℤ) → sel b x y ≡ cond b x y
by_test true x y = refl
by_test false x y = refl

pub to_z_signed : (n : ℕ) → to_z w64 n ≡ signed n
unfolding signed
to_z_signed n = by_test (ltb n (2 ^ 63)) (pos n) (negsuc (2 ^ 64 - suc n))

pub signed-fits : {n : ℕ} → Fits w64 n → SFits w64 (signed n)
signed-fits {n} f = subst (λ (z : ℤ). SFits w64 z) (to_z_signed n) (sfits_to_z f)

-- ---- from an integer to bits

pub of_z-pattern : (z : ℤ) → of_z w64 z ≡ pattern z
unfolding pattern
of_z-pattern (pos n) = refl
of_z-pattern (negsuc n) = refl
