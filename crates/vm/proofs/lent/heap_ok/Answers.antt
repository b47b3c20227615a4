-- `vm::lent::heap_ok` meets its contract. Assumes nothing.
use Rattle.vm.proofs.Buffers.{heap_long, heap_tested}
use Rattle.vm.proofs.lent.heap_ok.Goals as goal

pub returns-then-heap : goal.returns-then-heap
returns-then-heap c = heap_long _ _ c.if-heap.true

pub returns : goal.returns
returns c = heap_tested _ _ c.if-heap.false
