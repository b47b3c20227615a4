-- Each turn leaves less of the list.
use Rattle.std.proofs.Common.{◌≤◌, length}
use Rattle.vectors.proofs.replay.Given as goal

abbrev pub invariant-loop-rest : goal.invariant-loop-rest
invariant-loop-rest g l = length l.rest ≤ length l.all

abbrev pub decreases-loop-rest : goal.decreases-loop-rest
decreases-loop-rest g l = length l.rest
