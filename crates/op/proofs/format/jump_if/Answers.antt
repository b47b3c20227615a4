-- `op::format::jump_if` meets its contract: its mask says what its parts hold. Assumes nothing.
use Rattle.std.proofs.Common.{◌∙◌}
use Rattle.op.specs.Layout.{parts_of, register, anyByte, unused}
use Rattle.op.proofs.Masks.{jump_if_lem}
use Rattle.op.proofs.Sound.{parts_in}
use Rattle.op.proofs.Formats.{passed, refuses, gives}
use Rattle.op.proofs.format.jump_if.Goals as goal

pub returns-in_err-checked : goal.returns-in_err-checked
returns-in_err-checked c = refuses (c.fits.ensures ∙ jump_if_lem _) c.checked.ensures _ _ _ c.in_err-checked.was c.from_residual.ensures.1

pub new-requires : goal.new-requires
new-requires c = rw c.bytes.ensures (parts_in register anyByte anyByte unused (parts_of c.args.w) (passed (c.fits.ensures ∙ jump_if_lem _) c.checked.ensures c.in_ok-checked.was)).one

pub returns : goal.returns
returns c = gives _ _ _ (passed (c.fits.ensures ∙ jump_if_lem _) c.checked.ensures c.in_ok-checked.was) cc
