-- Growing the table through the spare slice, and `insert`. Definitions only.
use Rattle.std.specs.Prelude.{ℕ, ◌+◌, ◌*◌, Bool, true, false, cond, List, [], ◌∷◌, length, take, replicate, leb, ltb, eqb}
use Rattle.memory.specs.Lists.{over}
use Rattle.str_table.specs.declared.StrTable.{StrTable}
use Rattle.string.specs.Payload.{reaches, hash_at}
use Rattle.str_table.specs.Table.{placed}

-- the hash in the header at v; no sound table holds a v whose header is not in pushed pages
unfoldable pub stored_hash : ℕ → List ℕ → ℕ → ℕ
stored_hash base heap v = cond (reaches base (length heap) v 8) (hash_at base heap v) 0

-- 'replacing the old ones in slot order': each value of the old slots placed into the new by the hash in its header
unfoldable pub moved_one : Bool → ℕ → List ℕ → ℕ → List ℕ → List ℕ
moved_one true base heap v slots = slots
moved_one false base heap v slots = placed (stored_hash base heap v) v slots

unfoldable pub moved : ℕ → List ℕ → List ℕ → List ℕ → List ℕ
moved base heap [] slots = slots
moved base heap (v ∷ old) slots = moved base heap old (moved_one (eqb v 0) base heap v slots)

-- 'First `insert` makes 64 slots. 32 strings fit; the 33rd makes 128': as many slots as there are while they hold one name more and
-- are at most half full with it, else 64 or twice as many
unfoldable pub room_of : ℕ → ℕ → ℕ
room_of active len = cond (leb ((len + 1) * 2) active) active (cond (eqb active 0) 64 (active * 2))

-- the active slots, brought to so many
unfoldable pub widened : Bool → ℕ → List ℕ → List ℕ → ℕ → List ℕ
widened true base heap slots room = moved base heap slots (replicate room 0)
widened false base heap slots room = slots

unfoldable pub with_room : ℕ → List ℕ → List ℕ → ℕ → List ℕ
with_room base heap slots room = widened (ltb (length slots) room) base heap slots room

-- 'after growth it begins with the old slots, otherwise untouched'
unfoldable pub spare_after : Bool → List ℕ → List ℕ → List ℕ
spare_after true old spare = over old spare
spare_after false old spare = spare

-- ---- over lent slices

-- what `insert` leaves: the table's numbers, the lent slots and the spare
pub record Inserted : Type 0 where
  pub table : StrTable
  pub slots : List ℕ
  pub spare : List ℕ

abbrev pub inserted : StrTable → List ℕ → List ℕ → Inserted
inserted t slots spare = record { table = t; slots = slots; spare = spare }

-- the old slots placed again if the table grows, then the new value
unfoldable pub insert_of : ℕ → List ℕ → ℕ → ℕ → StrTable → List ℕ → List ℕ → Inserted
insert_of base heap hash v t slots spare =
    let room = room_of t.active t.len in
    let old = take t.active slots in
    inserted
    (record { active = room; len = t.len + 1 })
    (over (placed hash v (with_room base heap old room)) slots)
    (spare_after (ltb t.active room) old spare)
