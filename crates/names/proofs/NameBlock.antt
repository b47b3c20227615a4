-- The block of a new name: its header and bytes in the heap. Assumes nothing.
use mathlib.Core.Path.{◌≡◌, refl, sym, ap₂}
use Prim.Native.Nat.{ℕ, ◌+◌, ◌-◌, ◌≤◌}
use mathlib.Core.List.{List, ◌++◌}
use native.Mathlib.Omega.{arith}
use lib.ListN.{length, take, drop, length-append, length-drop}
use lib.Seq.{length-take-le}
use borrow.Author.Tests.{leb-true}
use Rattle.memory.specs.Lists.{over}
use Rattle.memory.proofs.Over.{over-write, tail_returned, length_over, length-write}
use Rattle.memory.proofs.Bytes.{length-bytes_of}
use Rattle.string.specs.Payload.{payload_of, payload_size}
use Rattle.gc.specs.declared.Gc.{Gc}
use Rattle.std.specs.Prelude.{Option, None, Some}
use Rattle.gc.proofs.Blocks.{GivenAt, some_said, none_said}
use Rattle.gc.specs.Pages.{Block, allocated}
use Rattle.gc.specs.Lent.{page_size, pages_of, numbers_of, fits, outcome, granted_in, alloc_of}
use Rattle.gc.specs.Lent as Heap
use Rattle.vm.specs.Core.{set_bytes}
use Rattle.names.specs.Interned.{written, name_block}
use Rattle.vm.proofs.Blocks.{allocated-placed}
use Rattle.vm.proofs.Kept.{allocated-base}

payload_length : (name : List ℕ) (hash : ℕ) → length (payload_of name hash) ≡ payload_size (length name)
unfolding payload_of
payload_length name hash = rw (length-append, length-bytes_of, length-append, length-bytes_of) (omega arith)

module _ (g : Gc) (name : List ℕ) (hash : ℕ) (heap : List ℕ) (r : Option ℕ) (to : Gc) (x : List ℕ)
    (e : outcome r to x ≡ alloc_of g 3 (payload_size (length name)) heap) where
  abbrev bare : Block
  bare = allocated page_size 3 (payload_size (length name)) (pages_of g heap)

  made_fits : fits (name_block name hash (pages_of g heap)).pages (length heap) ≡ fits bare.pages (length heap)
  unfolding fits written set_bytes
  made_fits = rw length-write refl

  pub store_refused : r ≡ None → outcome None to x ≡ granted_in (name_block name hash (pages_of g heap)) g heap
  unfolding alloc_of Heap.granted
  store_refused i = let q = none_said (fits bare.pages (length heap)) bare g heap x r to i e in rw (made_fits, q.0, q.1, q.2) refl

  module _ (a : ℕ) (i : r ≡ Some a) where
    said : GivenAt (fits bare.pages (length heap)) bare heap x a to
    unfolding alloc_of
    said = some_said _ bare g heap x r a to i e

    base-is : bare.pages.base ≡ g.base
    unfolding pages_of
    base-is = allocated-base page_size 3 (payload_size (length name)) (pages_of g heap)

    pub store_above : g.base ≤ a
    store_above = omega (arith, said.address, base-is, (allocated-placed 3 (payload_size (length name)) (pages_of g heap)).above)

    in_heap : length bare.pages.bytes ≤ length heap
    unfolding fits
    in_heap = leb-true _ _ said.fitting

    store_within : a - g.base + payload_size (length name) ≤ length x
    store_within =
        rw (said.bytes, length_over) (omega (
          arith,
          said.address,
          base-is,
          in_heap,
          (allocated-placed 3 (payload_size (length name)) (pages_of g heap)).within,
        ))

    pub store_starts : a - g.base ≤ length x
    store_starts = omega (arith, store_within)

    pub store_room : payload_size (length name) ≤ length (take (length x - (a - g.base)) (drop (a - g.base) x))
    store_room =
        let w = store_within in
        let l : length (drop (a - g.base) x) ≡ length x - (a - g.base) = length-drop (a - g.base) x in
        rw (length-take-le (length x - (a - g.base)) (drop (a - g.base) x) (omega arith)) (omega arith)

    pub store_done : (y : List ℕ) → y ≡ over (payload_of name hash) (take (length x - (a - g.base)) (drop (a - g.base) x))
        → outcome (Some a) to (take (a - g.base) x ++ (y ++ drop (length x - (a - g.base)) (drop (a - g.base) x)))
        ≡ granted_in (name_block name hash (pages_of g heap)) g heap
    unfolding Heap.granted written set_bytes numbers_of
    store_done y q =
        let w = store_within in
        let at : bare.address - bare.pages.base ≡ a - g.base = ap₂ ◌-◌ (sym said.address) base-is in
        let room : a - g.base + length (payload_of name hash) ≤ length bare.pages.bytes =
        rw (payload_length name hash) (omega (
          arith,
          said.address,
          base-is,
          (allocated-placed 3 (payload_size (length name)) (pages_of g heap)).within,
        )) in
        rw (
          made_fits,
          said.fitting,
          q,
          tail_returned (a - g.base) (length x) (payload_of name hash) x refl (omega arith),
          at,
          length-write,
          over-write (a - g.base) (payload_of name hash) bare.pages.bytes heap room,
          ← said.bytes,
          said.numbers,
          ← said.address,
        ) refl
