-- The test of 17, by a shift. Assumes nothing.
use mathlib.Core.Path.{◌≡◌, refl, sym, ap, ◌∙◌}
use Prim.Native.Nat.{ℕ, zero, suc, ◌+◌, ◌*◌, ◌/◌, ◌^◌, ◌≤◌, ◌<◌}
use mathlib.Core.Bool.{Bool, true, false, ◌&&◌}
use native.Mathlib.Omega.{arith}
use native.Mathlib.Numerals.{add-one}
use native.Mathlib.Nat.{div-add-mod', mod-lt, div-eq_of_lt}
use lib.Dec.{leb, ltb, eqb}
use lib.Pow.{pow-add, pow_pos}
use borrow.Author.Tests.{leb-true, le-leb, lt-leb, ltb-true, ltb-false, lt-ltb, eqb-true, eqb-false, eq-eqb, ne_eqb}
use Rattle.memory.proofs.Tests.{both}
use Rattle.string.specs.Payload.{small_ok}

byte_power : (n : ℕ) → 2 ^ (n * 8) ≡ 256 ^ n
byte_power zero = refl
byte_power (suc n) =
    let k : suc n * 8 ≡ n * 8 + 8 = omega arith in
    ap (λ (j : ℕ). 2 ^ j) k ∙ pow-add 2 (n * 8) 8 ∙ ap (λ (p : ℕ). p * 256) (byte_power n)
    ∙ sym (ap (λ (j : ℕ). 256 ^ j) (sym (add-one n)) ∙ pow-add 256 n 1)

pub small_shifted : (n w : ℕ) → n < 8 → eqb (w / 2 ^ (n * 8)) 0 ≡ small_ok n w
unfolding small_ok
small_shifted n w h = rw (byte_power n, le-leb n 8 (omega arith)) (go (ltb w (256 ^ n)) refl)
  where
    some : 0 < 256 ^ n
    some = rw (byte_power n) at (pow_pos (n * 8))

    go : (b : Bool) → ltb w (256 ^ n) ≡ b → eqb (w / 256 ^ n) 0 ≡ b
    go true e = eq-eqb _ 0 (div-eq_of_lt (ltb-true w (256 ^ n) e))
    go false e = ne_eqb (w / 256 ^ n) 0
        (λ (z : w / 256 ^ n ≡ 0). omega (arith, rw z at (div-add-mod' w (256 ^ n)), mod-lt w some, ltb-false w (256 ^ n) e))

pub small_whole : (n w : ℕ) → 8 ≤ n → w < 2 ^ 64 → eqb n 8 ≡ small_ok n w
unfolding small_ok
small_whole n w h k = go (eqb n 8) refl
  where
    go : (b : Bool) → eqb n 8 ≡ b → b ≡ (leb n 8 && ltb w (256 ^ n))
    go true e = let z = eqb-true n 8 e in rw (z, lt-ltb w (256 ^ 8) k) refl
    go false e = let z = eqb-false n 8 e in rw (lt-leb n 8 (omega arith)) refl

pub small_says : (n w : ℕ) → small_ok n w ≡ true → (n ≤ 8) × (w < 256 ^ n)
unfolding small_ok
small_says n w e = let q = both (leb n 8) _ e in (leb-true n 8 q.0, ltb-true w (256 ^ n) q.1)
