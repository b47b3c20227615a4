-- `report::put_registers` meets its contract. Assumes nothing.
use Rattle.std.proofs.Common.{arith}
use Rattle.report.proofs.Texts.{line_more, lines_all}
use Rattle.report.proofs.put_registers.Goals as goal

pub loop-number-preserved : goal.loop-number-preserved
loop-number-preserved c =
    (line_more _ _ _ _ _ (omega arith) c.loop-number.invariant.0 c.put_register.ensures.bytes, omega arith)

pub returns-clause-bytes : goal.returns-clause-bytes
returns-clause-bytes c = lines_all _ _ _ _ (omega arith) c.loop-number.invariant.0
