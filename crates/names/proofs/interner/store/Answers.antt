-- `names::interner::store` meets its contract. Assumes nothing.
use mathlib.Core.Path.{◌≡◌}
use lib.ListN.{length}
use Rattle.string.specs.Payload.{payload_size}
use Rattle.gc.specs.Lent.{outcome, alloc_of}
use Rattle.names.proofs.NameBlock.{store_refused, store_above, store_starts, store_room, store_done}
use Rattle.names.proofs.interner.store.Goals as goal
use Rattle.names.proofs.interner.store.Goals.{After-alloc}

-- a String of the name's size was asked for
block_of : (g : _) (c : After-alloc g)
    → outcome c.alloc.result c.alloc.new.self.gc c.alloc.new.self.bytes.now
    ≡ alloc_of c.args.heap.now.gc 3 (payload_size (length (g.N.Name.bytes c.args.hashed.name))) c.args.heap.now.bytes.now
block_of g c =
    rw (c.new.ensures.0, c.new.ensures.1, c.payload_size-size.ensures, c.len.ensures.0) at c.alloc.ensures.outcome

pub returns-in_err-address-clause-outcome : goal.returns-in_err-address-clause-outcome
returns-in_err-address-clause-outcome g c =
    rw c.from_residual.ensures (store_refused _ _ _ _ _ _ _ (block_of g (goal.at.returns-in_err-address-clause-outcome g c).After-alloc) c.in_err-address.was)

pub overflow_sub-at : goal.overflow_sub-at
overflow_sub-at g c = store_above _ (g.N.Name.bytes c.args.hashed.name) c.args.hashed.hash _ _ _ _
    (block_of g (goal.at.overflow_sub-at g c).After-alloc) _ c.in_ok-address.was

pub slice_bounds-write_payload-count : goal.slice_bounds-write_payload-count
slice_bounds-write_payload-count g c =
    store_starts _ (g.N.Name.bytes c.args.hashed.name) c.args.hashed.hash _ _ _ _
    (block_of g (goal.at.slice_bounds-write_payload-count g c).After-alloc) _ c.in_ok-address.was

pub slice_bounds-write_payload-start : goal.slice_bounds-write_payload-start
slice_bounds-write_payload-start g c =
    store_starts _ (g.N.Name.bytes c.args.hashed.name) c.args.hashed.hash _ _ _ _
    (block_of g (goal.at.slice_bounds-write_payload-start g c).After-alloc) _ c.in_ok-address.was

pub write_payload-requires : goal.write_payload-requires
write_payload-requires g c =
    store_room _ (g.N.Name.bytes c.args.hashed.name) c.args.hashed.hash _ _ _ _
    (block_of g (goal.at.write_payload-requires g c).After-alloc) _ c.in_ok-address.was

pub returns-clause-outcome : goal.returns-clause-outcome
returns-clause-outcome g c = store_done _ _ _ _ _ _ _ (block_of g (goal.at.returns-clause-outcome g c).After-alloc) _ c.in_ok-address.was _ c.write_payload.ensures
