-- `gc::Heap::grow` meets its contract. Assumes nothing.
use native.Mathlib.Omega.{arith}
use Rattle.gc.specs.Lent.{page_size}
use Rattle.gc.proofs.Blocks.{grow_full, grow_to}
use Rattle.gc.proofs.Growth.{grow_enough, grow-least_multiple}
use Rattle.gc.proofs.Heap.grow.Goals as goal

pub returns-then-self-size-clause-growth : goal.returns-then-self-size-clause-growth
returns-then-self-size-clause-growth c =
    grow_full _ _ c.args.self.now.belongs _ (omega (arith, grow_enough page_size c.args.size (omega arith)))

pub returns-then-self-cap-clause-growth : goal.returns-then-self-cap-clause-growth
returns-then-self-cap-clause-growth c =
    let m = c.next_multiple_of-cap.ensures in
    rw (← grow-least_multiple _ _ m.lower_bound m.upper_bound m.multiple)
    (grow_full _ _ c.args.self.now.belongs _ (omega (arith, c.args.self.now.belongs.in_heap)))

pub returns-clause-growth : goal.returns-clause-growth
returns-clause-growth c =
    let m = c.next_multiple_of-cap.ensures in
    rw (← grow-least_multiple _ _ m.lower_bound m.upper_bound m.multiple)
    (grow_to _ _ c.args.self.now.belongs _ _ _ (omega (arith, c.args.self.now.belongs.in_heap)) c.push_page.ensures.numbers c.push_page.ensures.bytes)
