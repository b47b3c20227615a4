-- The loop of `run::go`. Assumes nothing.
use Rattle.std.proofs.Common.{◌≡◌}
use Rattle.vm.specs.Machine.{Lent}
use Rattle.instruction.specs.Turn.{standing, lend_in}
use Rattle.run.proofs.Loops.{Running}
use Rattle.run.proofs.go.Given as goal

abbrev pub invariant-loop-steps : goal.invariant-loop-steps
invariant-loop-steps l = Running l.image l.budget l.initial.regs
    (λ (lent : Lent). lend_in l.initial.frames l.initial.heap lent) (standing l.initial.from l.initial.frames l.initial.heap)
    l.regs (λ (lent : Lent). lend_in l.frames l.heap lent) (standing l.pc l.frames l.heap) l.steps
    × (l.frames.places.ghost_name ≡ l.initial.frames.places.ghost_name) × (l.heap.bytes.ghost_name ≡ l.initial.heap.bytes.ghost_name)
