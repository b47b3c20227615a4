-- The loop of `str_table::place_all`. Assumes nothing.
use Rattle.str_table.proofs.Moves.{Moving}
use Rattle.str_table.proofs.place_all.Given as goal

abbrev pub invariant-loop-v : goal.invariant-loop-v
invariant-loop-v l = Moving l.heap.base l.heap.bytes.now l.old l.initial.slots l.v-index l.slots
