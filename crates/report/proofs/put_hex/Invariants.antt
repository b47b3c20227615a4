-- `report::put_hex`: its loop. Assumes nothing.
use Rattle.std.proofs.Common.{◌≡◌, ◌+◌, ◌++◌, length}
use Rattle.report.specs.Hex.{hex_of}
use Rattle.report.proofs.put_hex.Given as goal

abbrev pub invariant-loop-i : goal.invariant-loop-i
invariant-loop-i l =
    (l.out.bytes ++ hex_of l.i l.v ≡ l.initial.out.bytes ++ hex_of l.count l.v)
    × (length l.out.bytes + l.i ≡ length l.initial.out.bytes + l.count)
