-- `op::format::lookup` meets its contract: its mask says what its parts hold. Assumes nothing.
use Rattle.std.proofs.Common.{◌∙◌}
use Rattle.op.specs.Layout.{parts_of, register, switchKind, anyNumber}
use Rattle.op.proofs.Masks.{lookup}
use Rattle.op.proofs.Sound.{parts_in}
use Rattle.op.proofs.Formats.{passed, refuses, gives}
use Rattle.op.proofs.format.lookup.Goals as goal

pub returns-in_err-checked : goal.returns-in_err-checked
returns-in_err-checked c = refuses (c.fits.ensures ∙ lookup _) c.checked.ensures _ _ _ c.in_err-checked.was c.from_residual.ensures.1

pub new-requires : goal.new-requires
new-requires c = rw c.bytes-2.ensures (parts_in register register switchKind anyNumber (parts_of c.args.w) (passed (c.fits.ensures ∙ lookup _) c.checked.ensures c.in_ok-checked.was)).one

pub new-requires-2 : goal.new-requires-2
new-requires-2 c = rw c.bytes-3.ensures (parts_in register register switchKind anyNumber (parts_of c.args.w) (passed (c.fits.ensures ∙ lookup _) c.checked.ensures c.in_ok-checked.was)).two

pub returns : goal.returns
returns c = gives _ _ _ (passed (c.fits.ensures ∙ lookup _) c.checked.ensures c.in_ok-checked.was) cc
