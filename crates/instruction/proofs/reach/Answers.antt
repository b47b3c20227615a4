-- `instruction::reach` meets its contract. Assumes nothing.
use Rattle.std.proofs.Common.{true, false, arith}
use Rattle.instruction.proofs.Turns.{low_pushed, one_high, both_low, place_high, place_past, place_is}
use Rattle.instruction.proofs.reach.Goals as goal

pub returns-then-base-offset : goal.returns-then-base-offset
returns-then-base-offset c = place_high _ _ (low_pushed c.args.heap.now) (one_high _ _ c.if-base-offset.true)

pub overflow_add-address : goal.overflow_add-address
overflow_add-address c = let low = both_low c.args.base c.args.offset c.if-base-offset.false in omega (arith, low.0, low.1)

pub returns-then-pushed-at : goal.returns-then-pushed-at
returns-then-pushed-at c =
    let low = both_low c.args.base c.args.offset c.if-base-offset.false in
    let pushed = low_pushed c.args.heap.now in
    place_past _ _ _ (omega arith) (omega arith) (omega (arith, low.0, low.1)) (omega arith) c.if-pushed-at.true (omega arith)

pub returns-then-address-pushed : goal.returns-then-address-pushed
returns-then-address-pushed c =
    let low = both_low c.args.base c.args.offset c.if-base-offset.false in place_is _ _ _ (omega arith)
    (omega arith) (omega (arith, low.0, low.1)) (omega arith) (low_pushed c.args.heap.now) c.if-pushed-at.false true c.if-address-pushed.true

pub returns : goal.returns
returns c =
    let low = both_low c.args.base c.args.offset c.if-base-offset.false in place_is _ _ _ (omega arith)
    (omega arith) (omega (arith, low.0, low.1)) (omega arith) (low_pushed c.args.heap.now) c.if-pushed-at.false false c.if-address-pushed.false
