-- `op::format::jump` meets its contract: its mask says what its parts hold. Assumes nothing.
use Rattle.std.proofs.Common.{◌∙◌}
use Rattle.op.proofs.Masks.{jump}
use Rattle.op.proofs.Formats.{passed, refuses, gives}
use Rattle.op.proofs.format.jump.Goals as goal

pub returns-in_err-checked : goal.returns-in_err-checked
returns-in_err-checked c = refuses (c.fits.ensures ∙ jump _) c.checked.ensures _ _ _ c.in_err-checked.was c.from_residual.ensures.1

pub returns : goal.returns
returns c = gives _ _ _ (passed (c.fits.ensures ∙ jump _) c.checked.ensures c.in_ok-checked.was) cc
