-- `gc::Heap::alloc` meets its contract. Assumes nothing.
use Rattle.gc.proofs.Blocks.{in_last, in_new}
use Rattle.gc.proofs.Heap.alloc.Goals as goal

pub returns-in-Some-clause-outcome : goal.returns-in-Some-clause-outcome
returns-in-Some-clause-outcome c = in_last _ _ _ _ c.args.self.now.belongs _ _ _ c.alloc_fast.ensures.outcome _ c.in-Some.is

pub returns-clause-outcome : goal.returns-clause-outcome
returns-clause-outcome c =
    in_new _ _ _ _ c.args.self.now.belongs _ _ _ c.alloc_fast.ensures.outcome _ _ _ c.in_default.is c.alloc_slow.ensures.outcome
