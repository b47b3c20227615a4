-- `report::put_hex` meets its contract. Assumes nothing.
use Rattle.std.proofs.Common.{ap, length, length-append, arith}
use Rattle.report.proofs.Texts.{hex_more, hex_all}
use Rattle.report.proofs.put_hex.Goals as goal

pub loop-i-preserved : goal.loop-i-preserved
loop-i-preserved c =
    let pushed = c.push.ensures.ascii c.digit.ensures.ascii in (
      hex_more _ _ _ _ _ _ (omega arith) c.loop-i.invariant.0 (rw c.digit.ensures.value at pushed),
      omega (arith, simp length-append at (ap length pushed)),
    )

pub returns-clause-bytes : goal.returns-clause-bytes
returns-clause-bytes c = hex_all _ _ _ _ _ (omega arith) c.loop-i.invariant.0
