-- `str_table::make_room` meets its contract. Assumes nothing.
use Rattle.str_table.proofs.Moves.{widens, stays}
use Rattle.str_table.proofs.make_room.Goals as goal

pub returns-then-active-room : goal.returns-then-active-room
returns-then-active-room c =
    let all = widens _ _ _ _ _ _ c.requires.1 _ _ c.if-active-room.true (c.rehash.ensures.slots_after, c.rehash.ensures.spare_after) in
    record { slots_after = all.0; spare_after = all.1 }

pub returns-else-active-room : goal.returns-else-active-room
returns-else-active-room c =
    let all = stays _ _ _ _ _ _ c.requires.1 c.requires.0 c.if-active-room.false in
    record { slots_after = all.0; spare_after = all.1 }
