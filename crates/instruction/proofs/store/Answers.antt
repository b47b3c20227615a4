-- `instruction::store` meets its contract. Assumes nothing.
use Rattle.std.proofs.Common.{sym, ◌∙◌, arith}
use Rattle.instruction.specs.Turn.{lend_in}
use Rattle.instruction.proofs.Turns.{fitting, place_room, turn_store_outside, turn_store}
use Rattle.instruction.proofs.store.Goals as goal

pub returns-in_default-clause-turned : goal.returns-in_default-clause-turned
returns-in_default-clause-turned c =
    λ s pc regs f l e. rw c.stopped.ensures
    (sym (turn_store_outside s _ regs (lend_in f c.args.heap.now l) (fitting pc f c.args.heap.now l) _ _ (sym c.reach.ensures ∙ c.in_default.is) _))

pub store-requires : goal.store-requires
store-requires c =
    let inside = c.args.heap.now.belongs.in_heap in
    omega (arith, place_room _ _ _ (sym c.reach.ensures ∙ c.in-Some.is))

pub returns-clause-turned : goal.returns-clause-turned
returns-clause-turned c =
    λ s pc regs f l e. rw (c.store.ensures, e)
    (sym (turn_store s _ regs (lend_in f c.args.heap.now l) (fitting pc f c.args.heap.now l) _ _ _ (sym c.reach.ensures ∙ c.in-Some.is) _))
