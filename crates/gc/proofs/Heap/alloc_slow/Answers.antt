-- `gc::Heap::alloc_slow` meets its contract. Assumes nothing.
use Rattle.gc.proofs.Blocks.{slow_refused, slow_granted}
use Rattle.gc.proofs.Heap.alloc_slow.Goals as goal

pub returns-then-not-grow-clause-outcome : goal.returns-then-not-grow-clause-outcome
returns-then-not-grow-clause-outcome c = slow_refused _ _ _ _ c.args.self.now.belongs _ _ _ c.if-not-grow.true c.grow.ensures.growth

pub returns-clause-outcome : goal.returns-clause-outcome
returns-clause-outcome c =
    slow_granted _ _ _ _ c.args.self.now.belongs _ _ _ c.if-not-grow.false c.grow.ensures.growth _ _ _ c.alloc_fast.ensures.outcome
