-- `str_table::StrTable::insert` meets its contract. Assumes nothing.
use native.Mathlib.Omega.{arith}
use Rattle.str_table.proofs.Moves.{room_holds, active-there, insert_is}
use Rattle.str_table.proofs.StrTable.insert.Goals as goal

pub room-room-requires : goal.room-room-requires
room-room-requires c =
    let holds = room_holds c.args.self.active c.args.self.len c.requires.0 in
    (omega (arith, holds.0), c.requires.0)

pub make_room-requires : goal.make_room-requires
make_room-requires c =
    let holds = room_holds c.args.self.active c.args.self.len c.requires.0 in
    (omega (arith, holds.0, c.room-room.ensures), omega (arith, c.room-room.ensures), omega (arith, holds.0))

pub slice_bounds-place-end-2 : goal.slice_bounds-place-end-2
slice_bounds-place-end-2 c =
    active-there _ _ c.args.self _ _ c.room-room.ensures c.requires.0 c.requires.1 _ c.make_room.ensures.slots_after

pub overflow_add-result : goal.overflow_add-result
overflow_add-result c =
    let holds = room_holds c.args.self.active c.args.self.len c.requires.0 in
    record { fits = omega (arith, holds.1) }

pub returns : goal.returns
returns c =
    insert_is _ _ c.args.self _ _ c.room-room.ensures c.requires.0 c.requires.1 _ _ _ _ _ _
    c.make_room.ensures.slots_after c.make_room.ensures.spare_after c.place.ensures
