-- The loop of `str_table::slots_ok`. Assumes nothing.
use Rattle.str_table.proofs.Counting.{Counting}
use Rattle.str_table.proofs.slots_ok.Given as goal

abbrev pub invariant-loop-v : goal.invariant-loop-v
invariant-loop-v l = Counting l.extent.base l.extent.len l.slots l.filled l.headers l.v-index
