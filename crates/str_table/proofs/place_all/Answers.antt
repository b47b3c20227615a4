-- `str_table::place_all` meets its contract. Assumes nothing.
use mathlib.Core.Path.{◌∙◌}
use Rattle.str_table.proofs.Moves.{moving_start, moving_skip, moving_place, moving_end}
use Rattle.str_table.proofs.place_all.Goals as goal
use Rattle.str_table.proofs.place_all.Goals.{then-v-ne-EMPTY, else-v-ne-EMPTY}

pub loop-v-init : goal.loop-v-init
loop-v-init c = moving_start _ _ _ _

pub loop-v-preserved : goal.loop-v-preserved
loop-v-preserved c =
    elim c.if-v-ne-EMPTY.branch [
      | then-v-ne-EMPTY w ↦ moving_place _ _ _ _ _ _ c.loop-v.invariant _ _ c.loop-v-test.true w.if-v-ne-EMPTY.true w.str_hash.ensures
          (w.slots-is ∙ w.place.ensures)
      | else-v-ne-EMPTY w ↦ moving_skip _ _ _ _ _ _ c.loop-v.invariant _ c.loop-v-test.true w.if-v-ne-EMPTY.false w.slots-is
    ]

pub returns : goal.returns
returns c = moving_end _ _ _ _ _ _ c.loop-v.invariant c.loop-v-test.false
