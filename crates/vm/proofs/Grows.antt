-- Pushed pages grow and never shrink, and the last one ends in them. Assumes nothing.
use mathlib.Core.Path.{◌≡◌, refl}
use Prim.Native.Nat.{ℕ, ◌+◌, ◌-◌, ◌≤◌}
use mathlib.Core.Bool.{Bool, true, false}
use native.Mathlib.Omega.{arith}
use lib.ListN.{length, length-append, length-replicate}
use borrow.Author.Tests.{leb-true}
use Rattle.memory.proofs.Over.{length-write}
use Rattle.gc.specs.Pages.{Pages, gap_of, holds, block, pushed, fitted, allocated}
use Rattle.gc.specs.Lent.{page_size}
use Rattle.gc.proofs.Growth.{grow_enough}
use Rattle.program.specs.Image.{Image}
use Rattle.vm.specs.Core.{Core, Sizes, set_pages, set_bytes}
use Rattle.vm.specs.Run.{Step, stored8, step, go}
use Rattle.vm.proofs.Every.{Every, every_map, apply_every, step_every, go_every}

-- the last page ends in the pushed bytes
abbrev pub Ends : Pages → Type 0
Ends p = p.last + p.len ≤ length p.bytes

pub record Grows (p q : Pages) : Type 0 where
  pub more : length p.bytes ≤ length q.bytes
  pub ends : Ends q

fitted_grows : (t : Bool) (flags n : ℕ) (p : Pages) → holds n p ≡ t → Ends p → Grows p (fitted t page_size flags n p).pages
unfolding fitted block pushed holds
fitted_grows true flags n p e h =
    let k = leb-true (p.len + gap_of p.len + 16 + n) (length p.bytes - p.last) e in
    record { more = rw length-write (omega arith); ends = rw length-write (omega arith) }
fitted_grows false flags n p e h =
    let room = grow_enough page_size n (omega arith) in
    record {
      more = rw (length-write, length-append, length-replicate) (omega arith);
      ends = rw (length-write, length-append, length-replicate) (omega arith);
    }

pub allocated_grows : (flags n : ℕ) (p : Pages) → Ends p → Grows p (allocated page_size flags n p).pages
unfolding allocated
allocated_grows flags n p h = fitted_grows (holds n p) flags n p refl h

-- ---- an instruction

same : (p : Pages) → Ends p → Grows p p
same p h = record { more = omega arith; ends = h }

stored_grows : (a v : ℕ) (p : Pages) → Ends p → Grows p (stored8 a v p)
unfolding stored8 set_bytes
stored_grows a v p h = record { more = rw length-write (omega arith); ends = rw length-write h }

abbrev pub GrowsStep : Pages → Step → Type 0
GrowsStep p x = Every (λ d. Grows p d.memory.pages) x

pub step_grows : (n : Sizes) (im : Image) (c : Core) → Ends c.memory.pages → GrowsStep c.memory.pages (step n im c)
unfolding set_pages
step_grows n im c h =
    let p = c.memory.pages in
    step_every (λ d. Grows p d.memory.pages) n im c (same p h)
    (apply_every (λ r l. Grows p l.pages) c (same p h) (λ r dst v k. k) (λ a v. stored_grows a v p h)
    (λ dst kind m. allocated_grows kind m p h))

-- ---- a run

grows_next : {p q r : Pages} → Grows p q → Grows q r → Grows p r
grows_next g k = record { more = omega (arith, g.more, k.more); ends = k.ends }

pub go_grows : (n : Sizes) (im : Image) (b : ℕ) (c : Core) → Ends c.memory.pages
    → length c.memory.pages.bytes ≤ length (go n im b c).core.memory.pages.bytes
go_grows n im b c h =
    let p = c.memory.pages in
    let Grown : Core → Type 0 = λ d. Grows p d.memory.pages in
    (go_every Grown n im (λ d g. every_map (λ e. Grows d.memory.pages e.memory.pages) Grown (λ e k. grows_next g k) (step n im d)
    (step_grows n im d g.ends)) b c (same p h)).more
