-- `str_table::look_up` meets its contract. Assumes nothing.
use mathlib.Core.Path.{sym, ◌∙◌}
use native.Mathlib.Omega.{arith}
use borrow.Author.Tests.{eqb-true, eqb-false}
use Rattle.str_table.specs.Table.{home}
use Rattle.str_table.proofs.Probes.{home_lt, no_slots, probing_start, probing_end, probing_next, stops_vacant, stops-found}
use Rattle.str_table.proofs.look_up.Goals as goal

pub returns-then-is_empty-clause-probed : goal.returns-then-is_empty-clause-probed
returns-then-is_empty-clause-probed g c = λ test computes. no_slots test _ _ (eqb-true _ _ (sym c.is_empty.ensures ∙ c.if-is_empty.true))

pub loop-turn-init : goal.loop-turn-init
unfolding home
loop-turn-init g c =
    let some = eqb-false _ _ (sym c.is_empty.ensures ∙ c.if-is_empty.false) in
    (home_lt _ _ (omega arith), λ test computes. probing_start test _ _ some)

pub returns-then-v-eq-EMPTY-clause-probed : goal.returns-then-v-eq-EMPTY-clause-probed
returns-then-v-eq-EMPTY-clause-probed g c =
    λ test computes. stops_vacant test _ _ _ _ (c.loop-turn.invariant.1 test computes) c.loop-turn-test.true c.if-v-eq-EMPTY.true

pub returns-then-hit-clause-probed : goal.returns-then-hit-clause-probed
returns-then-hit-clause-probed g c =
    λ test computes. stops-found test _ _ _ _ (c.loop-turn.invariant.1 test computes) _ c.loop-turn-test.true c.if-v-eq-EMPTY.false
    (computes _ _ (omega (arith, c.type_inv.slots c.loop-turn.i)) c.hit.ensures) c.if-hit.true

pub loop-turn-preserved : goal.loop-turn-preserved
unfolding home
loop-turn-preserved g c = (
  home_lt _ _ (omega (arith, c.loop-turn.invariant.0)),
  λ test computes. probing_next test _ _ _ _ (c.loop-turn.invariant.1 test computes) _ c.loop-turn-test.true c.if-v-eq-EMPTY.false
      (computes _ _ (omega (arith, c.type_inv.slots c.loop-turn.i)) c.hit.ensures) c.if-hit.false,
)

pub returns-clause-probed : goal.returns-clause-probed
returns-clause-probed g c = λ test computes. probing_end test _ _ _ _ (c.loop-turn.invariant.1 test computes) c.loop-turn-test.false
