-- `vm::boxed` meets its contract. Assumes nothing.
use mathlib.Core.Path.{◌≡◌}
use Rattle.gc.specs.Lent.{outcome, alloc_of}
use Rattle.vm.proofs.Boxes.{box_refused, box_low, box_starts, box_room, box_written}
use Rattle.vm.proofs.boxed.Goals as goal
use Rattle.vm.proofs.boxed.Goals.{After-alloc}

-- an Option of 16 bytes was asked for
block_of : (c : After-alloc)
    → outcome c.alloc.result c.alloc.new.self.gc c.alloc.new.self.bytes.now ≡ alloc_of c.args.heap.now.gc 2 16 c.args.heap.now.bytes.now
block_of c = rw (c.new.ensures.0, c.new.ensures.1) at c.alloc.ensures.outcome

pub returns-in_err-address-clause-outcome : goal.returns-in_err-address-clause-outcome
returns-in_err-address-clause-outcome c =
    rw c.from_residual.ensures
    (box_refused _ _ c.args.heap.now.belongs _ _ _ _ _ (block_of (goal.at.returns-in_err-address-clause-outcome c).After-alloc)
    c.in_err-address.was)

pub overflow_sub-at : goal.overflow_sub-at
overflow_sub-at c =
    box_low _ _ c.args.heap.now.belongs c.args.tag c.args.value _ _ _ (block_of (goal.at.overflow_sub-at c).After-alloc) _
    c.in_ok-address.was

pub slice_bounds-write_box-count : goal.slice_bounds-write_box-count
slice_bounds-write_box-count c =
    box_starts _ _ c.args.heap.now.belongs c.args.tag c.args.value _ _ _ (block_of (goal.at.slice_bounds-write_box-count c).After-alloc) _
    c.in_ok-address.was

pub slice_bounds-write_box-start : goal.slice_bounds-write_box-start
slice_bounds-write_box-start c =
    box_starts _ _ c.args.heap.now.belongs c.args.tag c.args.value _ _ _ (block_of (goal.at.slice_bounds-write_box-start c).After-alloc) _
    c.in_ok-address.was

pub write_box-requires : goal.write_box-requires
write_box-requires c =
    box_room _ _ c.args.heap.now.belongs c.args.tag c.args.value _ _ _ (block_of (goal.at.write_box-requires c).After-alloc) _
    c.in_ok-address.was

pub returns-clause-outcome : goal.returns-clause-outcome
returns-clause-outcome c =
    box_written _ _ c.args.heap.now.belongs c.args.tag c.args.value _ _ _ (block_of (goal.at.returns-clause-outcome c).After-alloc) _
    c.in_ok-address.was _ c.write_box.ensures
