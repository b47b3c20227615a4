-- A block that was allocated, and what its pages hold of it. Assumes nothing.
use mathlib.Core.Path.{◌≡◌, refl}
use Prim.Native.Nat.{ℕ, ◌+◌, ◌-◌, ◌≤◌}
use mathlib.Core.Bool.{Bool, true, false}
use native.Mathlib.Omega.{arith}
use lib.ListN.{length, length-append, length-replicate}
use borrow.Author.Tests.{leb-true}
use Rattle.memory.proofs.Over.{length-write}
use Rattle.gc.specs.Pages.{Pages, Block, gap_of, block, pushed, fitted, allocated}
use Rattle.gc.specs.Pages as Pages
use Rattle.gc.specs.Lent.{page_size}
use Rattle.gc.proofs.Growth.{grow_enough}

-- the payload's n bytes lie in the pages
pub record Placed (n : ℕ) (b : Block) : Type 0 where
  pub above : b.pages.base ≤ b.address
  pub within : b.address - b.pages.base + n ≤ length b.pages.bytes

fitted-placed : (t : Bool) (flags n : ℕ) (p : Pages) → Pages.holds n p ≡ t → Placed n (fitted t page_size flags n p)
unfolding fitted block pushed Pages.holds
fitted-placed true flags n p e = let k = leb-true (p.len + gap_of p.len + 16 + n) (length p.bytes - p.last) e in record {
  above = omega arith;
  within = rw length-write (omega arith);
}
fitted-placed false flags n p e =
    record { above = omega arith; within = rw (length-write, length-append, length-replicate) (omega (arith, grow_enough page_size n (omega arith))) }

pub allocated-placed : (flags n : ℕ) (p : Pages) → Placed n (allocated page_size flags n p)
unfolding allocated
allocated-placed flags n p = fitted-placed _ flags n p refl
