-- `str_table::slots_ok` meets its contract. Assumes nothing.
use mathlib.Core.Path.{ap}
use mathlib.Core.Bool.{Bool, not, ◌&&◌}
use native.Mathlib.Omega.{arith}
use lib.ListN.{get_or}
use lib.Dec.{eqb}
use Rattle.str_table.proofs.Counting.{one_most, counting_start, counting_next, bad_headers, bad_count, half_full}
use Rattle.str_table.proofs.slots_ok.Goals as goal
use Rattle.str_table.proofs.slots_ok.Goals.{then-not-headers-via-then-not-headers, then-not-headers-via-else-not-headers+then-filled-len}

pub loop-v-init : goal.loop-v-init
loop-v-init c = counting_start _ _ _

pub overflow_add-filled : goal.overflow_add-filled
overflow_add-filled c =
    let one = one_most (not (eqb (get_or c.args.slots.now c.loop-v.v-index 0) 0)) in
    omega (arith, c.from-filled.ensures, one, c.loop-v.invariant.few)

pub loop-v-preserved : goal.loop-v-preserved
loop-v-preserved c =
    counting_next _ _ _ _ _ _ c.loop-v.invariant _ _ c.loop-v-test.true c.from-filled.ensures
    (ap (λ (t : Bool). c.loop-v.headers && t) c.slot_ok-headers.ensures)

pub returns-then-not-headers : goal.returns-then-not-headers
returns-then-not-headers c =
    elim c.then-not-headers.branch [
      | then-not-headers-via-then-not-headers w ↦ bad_headers _ _ _ _ _ _ c.loop-v.invariant _ c.loop-v-test.false w.if-not-headers.true
      | then-not-headers-via-else-not-headers+then-filled-len w ↦
          bad_count _ _ _ _ _ _ c.loop-v.invariant _ c.loop-v-test.false w.if-not-headers.false w.if-filled-len.true
    ]

pub returns : goal.returns
returns c = half_full _ _ _ _ _ _ c.loop-v.invariant _ c.loop-v-test.false c.if-not-headers.false c.if-filled-len.false
