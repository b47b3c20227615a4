-- `instruction::load` meets its contract. Assumes nothing.
use Rattle.std.proofs.Common.{sym, ◌∙◌, arith}
use Rattle.instruction.specs.Turn.{lend_in}
use Rattle.instruction.proofs.Turns.{fitting, place_room, turn_load_outside, turn_load}
use Rattle.instruction.proofs.load.Goals as goal

pub returns-in_default-clause-turned : goal.returns-in_default-clause-turned
returns-in_default-clause-turned c =
    λ s pc f l e. rw c.stopped.ensures
    (sym (turn_load_outside s _ _ (lend_in f c.args.heap.now l) (fitting pc f c.args.heap.now l) _ _ (sym c.reach.ensures ∙ c.in_default.is) _))

pub load-requires : goal.load-requires
load-requires c =
    let inside = c.args.heap.now.belongs.in_heap in
    omega (arith, place_room _ _ _ (sym c.reach.ensures ∙ c.in-Some.is))

pub returns-clause-turned : goal.returns-clause-turned
returns-clause-turned c =
    λ s pc f l e. rw (c.write.ensures, c.load.ensures.value, e)
    (sym (turn_load s _ _ (lend_in f c.args.heap.now l) (fitting pc f c.args.heap.now l) _ _ _ (sym c.reach.ensures ∙ c.in-Some.is) _))
