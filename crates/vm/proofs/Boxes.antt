-- An Option written into a block. Assumes nothing.
use mathlib.Core.Path.{◌≡◌, refl, sym, ap, ◌∙◌}
use Prim.Native.Nat.{ℕ, ◌+◌, ◌-◌, ◌≤◌}
use mathlib.Core.Bool.{true}
use mathlib.Core.List.{List, ◌++◌}
use native.Mathlib.Omega.{arith}
use lib.ListN.{length, take, drop, length-append, length-drop}
use lib.Seq.{length-take-le}
use lib.Dec.{leb}
use borrow.Author.Tests.{leb-true, le-leb}
use Rattle.memory.specs.Lists.{over, write}
use Rattle.memory.proofs.Over.{length_over, length-write, over-write, tail_returned}
use Rattle.memory.proofs.Bytes.{length-bytes_of}
use Rattle.gc.specs.declared.Gc.{Gc}
use Rattle.std.specs.Prelude.{Option, None, Some}
use Rattle.gc.proofs.Blocks.{GivenAt, some_said, none_said}
use Rattle.gc.specs.Pages.{Block, grow_of, gap_of, holds, block, pushed, fitted, allocated}
use Rattle.gc.specs.Lent.{page_size, pages_of, numbers_of, outcome, fits, granted, granted_in, alloc_of, InHeap}
use Rattle.vm.specs.Core.{set_pages, set_bytes}
use Rattle.vm.specs.Names.{box_of, filled, boxed}
use Rattle.vm.specs.Machine.{first_page, first_memory}
use Rattle.vm.specs.Told.{block_of, memory_in}
use Rattle.vm.proofs.Starting.{first_length}
use Rattle.vm.proofs.Kept.{allocated-base}
use Rattle.vm.proofs.Blocks.{Placed, allocated-placed}

-- ---- a box: two words in the payload of a block that was granted

module _ (g : Gc) (heap : List ℕ) (s : InHeap g heap) (tag v : ℕ) where
  abbrev b : Block
  b = allocated page_size 2 16 (pages_of g heap)

  abbrev goal : Block
  goal = block_of (boxed tag v (memory_in g heap))

  base-is : b.pages.base ≡ g.base
  unfolding pages_of
  base-is = allocated-base page_size 2 16 (pages_of g heap)

  in_payload : Placed 16 b
  in_payload = allocated-placed 2 16 (pages_of g heap)

  same_fit : fits goal.pages (length heap) ≡ fits b.pages (length heap)
  unfolding fits boxed filled set_pages set_bytes
  same_fit = rw length-write refl

  same_numbers : numbers_of b.pages ≡ numbers_of goal.pages
  unfolding numbers_of boxed filled set_pages set_bytes
  same_numbers = rw length-write refl

  box_length : length (box_of tag v) ≡ 16
  box_length = rw (length-append, length-bytes_of, length-bytes_of) refl

  -- the two words in the lent heap
  laid_box : write (b.address - g.base) (box_of tag v) (over b.pages.bytes heap) ≡ over goal.pages.bytes heap
  unfolding boxed filled set_pages set_bytes pages_of
  laid_box =
      let at : ℕ = b.address - g.base in
      let base = base-is in
      let room : at + 16 ≤ length b.pages.bytes = omega (arith, base, in_payload.within) in
      rw base (sym (over-write at (box_of tag v) b.pages.bytes heap (rw box_length room)))

  module _ (r : Option ℕ) (h : Gc) (x : List ℕ) (e : outcome r h x ≡ alloc_of g 2 16 heap) where
    pub box_refused : r ≡ None → outcome None h x ≡ granted_in goal g heap
    unfolding alloc_of granted
    box_refused q = let z = none_said (fits b.pages (length heap)) b g heap x r h q e in rw (same_fit, z.0, z.1, z.2) refl

    module _ (a : ℕ) (q : r ≡ Some a) where
      said : GivenAt (fits b.pages (length heap)) b heap x a h
      unfolding alloc_of
      said = some_said _ b g heap x r a h q e

      pub box_low : g.base ≤ a
      box_low = omega (arith, said.address, base-is, in_payload.above)

      -- the two words lie in the lent heap
      in_lent : a - g.base + 16 ≤ length heap
      unfolding fits
      in_lent =
          let fit : length b.pages.bytes ≤ length heap = leb-true _ _ said.fitting in
          omega (arith, said.address, base-is, in_payload.within)

      in_part : a - g.base + 16 ≤ length x
      in_part = rw (said.bytes, length_over) in_lent

      pub box_starts : a - g.base ≤ length x
      box_starts = omega (arith, in_part)

      -- the part of the heap that starts at the payload
      abbrev to : List ℕ
      to = take (length x - (a - g.base)) (drop (a - g.base) x)

      pub box_room : 16 ≤ length to
      box_room =
          let w = in_part in
          let l : length (drop (a - g.base) x) ≡ length x - (a - g.base) = length-drop (a - g.base) x in
          rw (length-take-le (length x - (a - g.base)) (drop (a - g.base) x) (omega arith)) (omega arith)

      pub box_written : (y : List ℕ) → y ≡ over (box_of tag v) to
          → outcome (Some a) h (take (a - g.base) x ++ (y ++ drop (length x - (a - g.base)) (drop (a - g.base) x))) ≡ granted_in goal g heap
      unfolding granted boxed filled
      box_written y q =
          let at : a - g.base ≡ b.address - g.base = ap (λ (k : ℕ). k - g.base) said.address in
          let back = tail_returned (a - g.base) (length x) (box_of tag v) x refl box_starts in
          let home : take (a - g.base) x ++ (y ++ drop (length x - (a - g.base)) (drop (a - g.base) x))
          ≡ over goal.pages.bytes heap = rw (q, back, said.bytes, at) laid_box in
          let numbers : h ≡ numbers_of goal.pages = said.numbers ∙ same_numbers in
          rw (same_fit ∙ said.fitting, home, said.address, numbers) refl

-- ---- the first box, in a heap without pages: it pushes page 0

abbrev pub bare : ℕ → Gc
bare base = record { base = base; pushed = 0; page = 0; len = 0 }

first_box : (base : ℕ) (heap : List ℕ)
    → block_of (boxed 0 0 (memory_in (bare base) heap)) ≡ record { address = base + 16; pages = (first_memory base).pages }
unfolding first_memory first_page boxed filled set_pages set_bytes pages_of allocated fitted holds block pushed gap_of grow_of
first_box base heap = refl

pub first_laid : (base : ℕ) (heap : List ℕ) → page_size ≤ length heap → (r : Option ℕ) (h : Gc) (x : List ℕ)
    → outcome r h x ≡ granted_in (block_of (boxed 0 0 (memory_in (bare base) heap))) (bare base) heap
    → outcome r h x ≡ outcome (Some (base + 16)) (numbers_of (first_memory base).pages) (over (first_memory base).pages.bytes heap)
unfolding granted fits
first_laid base heap room r h x e =
    let n = first_length base in
    let fit : leb (length (first_memory base).pages.bytes) (length heap)
    ≡ true = le-leb (length (first_memory base).pages.bytes) (length heap) (omega arith) in
    rw (first_box base heap, fit) at e
