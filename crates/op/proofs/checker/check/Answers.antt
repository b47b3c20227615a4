-- `check` meets its contract, by the mask of the opcode. Assumes nothing.
use Rattle.std.proofs.Common.{eq-eqb, ne_eqb}
use Rattle.op.proofs.Checks.{checked_by}
use Rattle.op.proofs.Formats.{passed, refuses}
use Rattle.op.proofs.checker.check.Goals as goal

pub returns-then-mask-eq-ABSENT : goal.returns-then-mask-eq-ABSENT
returns-then-mask-eq-ABSENT c =
    rw (← checked_by c.mask-mask.result c.args.n c.args.w c.mask-mask.ensures, eq-eqb c.mask-mask.result 1 c.if-mask-eq-ABSENT.true)

pub returns-in_err-checked : goal.returns-in_err-checked
returns-in_err-checked c =
    rw (← checked_by c.mask-mask.result c.args.n c.args.w c.mask-mask.ensures, ne_eqb c.mask-mask.result 1 c.if-mask-eq-ABSENT.false)
    (refuses c.fits.ensures c.checked.ensures _ _ _ c.in_err-checked.was c.from_residual.ensures.1)

pub returns : goal.returns
returns c =
    rw (
      ← checked_by c.mask-mask.result c.args.n c.args.w c.mask-mask.ensures,
      ne_eqb c.mask-mask.result 1 c.if-mask-eq-ABSENT.false,
      passed c.fits.ensures c.checked.ensures c.in_ok-checked.was,
    )
    c.rest.ensures
