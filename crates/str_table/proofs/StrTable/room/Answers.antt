-- `str_table::StrTable::room` meets its contract. Assumes nothing.
use native.Mathlib.Omega.{arith}
use Rattle.str_table.proofs.Moves.{room_stays, room_first, room_doubles}
use Rattle.str_table.proofs.StrTable.room.Goals as goal

pub returns-then-self : goal.returns-then-self
returns-then-self c = room_stays _ _ (omega arith)

pub returns-then-self-eq0 : goal.returns-then-self-eq0
returns-then-self-eq0 c = room_first _ _ (omega arith) c.if-self-eq0.true

pub returns-else-self-eq0 : goal.returns-else-self-eq0
returns-else-self-eq0 c = room_doubles _ _ (omega arith) c.if-self-eq0.false
