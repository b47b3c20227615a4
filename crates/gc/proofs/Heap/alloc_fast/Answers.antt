-- `gc::Heap::alloc_fast` meets its contract. Assumes nothing.
use Rattle.gc.proofs.Blocks.{too_large, fast_refused, fast_granted}
use Rattle.gc.proofs.Heap.alloc_fast.Goals as goal

pub returns-then-self-m-clause-outcome : goal.returns-then-self-m-clause-outcome
returns-then-self-m-clause-outcome c = too_large _ _ c.args.self.now.belongs _ _ c.if-self-m.true

pub returns-then-gc-len-clause-outcome : goal.returns-then-gc-len-clause-outcome
returns-then-gc-len-clause-outcome c =
    let h = c.next_multiple_of-header.ensures in
    fast_refused _ _ c.args.self.now.belongs _ _ _ h.lower_bound h.upper_bound h.multiple c.if-gc-len.true

pub returns-clause-outcome : goal.returns-clause-outcome
returns-clause-outcome c =
    let h = c.next_multiple_of-header.ensures in
    fast_granted _ _ c.args.self.now.belongs _ _ _ h.lower_bound h.upper_bound h.multiple _ c.if-gc-len.false c.write.ensures
