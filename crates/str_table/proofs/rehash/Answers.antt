-- `str_table::rehash` meets its contract. Assumes nothing.
use mathlib.Core.Path.{sym}
use native.Mathlib.Omega.{arith}
use lib.Seq.{length-take-le}
use Rattle.str_table.proofs.Moves.{front_there, spare-there, rehashed}
use borrow.Author.Rules.{rules}
use Rattle.str_table.proofs.rehash.Goals as goal

pub slice_bounds-copy-end-2 : goal.slice_bounds-copy-end-2
slice_bounds-copy-end-2 c = sym (length-take-le _ _ (search rules))

pub copy-requires : goal.copy-requires
copy-requires c = omega (arith, length-take-le c.args.active c.args.slots.now (omega arith))

pub slice_bounds-fill-end-2 : goal.slice_bounds-fill-end-2
slice_bounds-fill-end-2 c = sym (length-take-le _ _ (search rules))

pub slice_bounds-place_all-end-2 : goal.slice_bounds-place_all-end-2
slice_bounds-place_all-end-2 c =
    spare-there c.args.heap.base c.args.heap.bytes.now _ _ _ _ c.requires.0 c.requires.1 c.requires.2 _ _
    c.copy.ensures (c.fill.ensures.after (λ y h. h))

pub slice_bounds-place_all-end-4 : goal.slice_bounds-place_all-end-4
slice_bounds-place_all-end-4 c =
    front_there c.args.heap.base c.args.heap.bytes.now _ _ _ _ c.requires.0 c.requires.1 c.requires.2 _ _
    c.copy.ensures (c.fill.ensures.after (λ y h. h))

pub returns : goal.returns
returns c =
    record {
      slots_after = rehashed _ _ _ _ _ _ c.requires.0 c.requires.1 c.requires.2 _ _ c.copy.ensures
          (c.fill.ensures.after (λ y h. h)) _ c.place_all.ensures;
      spare_after = c.copy.ensures;
    }
