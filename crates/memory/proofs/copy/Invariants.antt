-- The loop of `memory::copy`. Assumes nothing.
use Rattle.std.proofs.Common.{◌≡◌, take}
use Rattle.memory.specs.Lists.{over}
use Rattle.memory.proofs.copy.Given as goal

abbrev pub invariant-loop-i : goal.invariant-loop-i
invariant-loop-i g l = l.to ≡ over (take l.i l.from) l.initial.to
