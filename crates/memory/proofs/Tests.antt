-- Tests taken apart, and a test of a sum as code makes it without the sum. Assumes nothing.
use mathlib.Core.Path.{◌≡◌, refl}
use mathlib.Core.Bool.{Bool, true, false, ◌&&◌}
use Prim.Native.Nat.{ℕ, ◌+◌, ◌-◌, ◌≤◌}
use native.Mathlib.Omega.{arith}
use lib.Dec.{leb}
use borrow.Author.Tests.{le-leb, lt-leb, leb-true, leb-false}

pub both : (a b : Bool) → (a && b) ≡ true → (a ≡ true) × (b ≡ true)
both true b h = (refl, h)
both false b h = (h, cc)

pub leb_minus : (a k n sum : ℕ) → sum ≡ a + k → k ≤ n → leb a (n - k) ≡ leb sum n
leb_minus a k n sum is small = go (leb sum n) refl
  where
    go : (fits : Bool) → leb sum n ≡ fits → leb a (n - k) ≡ fits
    go true h = let in-n = leb-true sum n h in le-leb a (n - k) (omega arith)
    go false h = let past-n = leb-false sum n h in lt-leb a (n - k) (omega arith)
