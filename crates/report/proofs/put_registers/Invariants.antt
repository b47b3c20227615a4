-- `report::put_registers`: its loop. Assumes nothing.
use Rattle.std.proofs.Common.{◌≡◌, ◌+◌, ◌*◌, ◌≤◌, ◌++◌, length, drop}
use Rattle.report.specs.Report.{register_lines}
use Rattle.report.proofs.put_registers.Given as goal

abbrev pub invariant-loop-number : goal.invariant-loop-number
invariant-loop-number l =
    (l.out.bytes ++ register_lines l.number (drop l.number l.regs) ≡ l.initial.out.bytes ++ register_lines 0 l.regs)
    × (length l.out.bytes ≤ length l.initial.out.bytes + 19 * l.number)
