-- The loop of `program::loader::rising`. Assumes nothing.
use Rattle.std.proofs.Common.{◌≡◌, drop}
use Rattle.program.specs.Image.{rising}
use Rattle.program.proofs.loader.rising.Given as goal

abbrev pub invariant-loop-end : goal.invariant-loop-end
invariant-loop-end l = rising l.from (drop l.end-index l.ends) l.entries ≡ rising l.start l.ends l.entries
