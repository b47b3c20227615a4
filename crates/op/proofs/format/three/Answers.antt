-- `op::format::three` meets its contract: its mask says what its parts hold. Assumes nothing.
use Rattle.std.proofs.Common.{◌∙◌}
use Rattle.op.specs.Layout.{parts_of, register, unused}
use Rattle.op.proofs.Masks.{three-registers}
use Rattle.op.proofs.Sound.{parts_in}
use Rattle.op.proofs.Formats.{passed, refuses, gives}
use Rattle.op.proofs.format.three.Goals as goal

pub returns-in_err-checked : goal.returns-in_err-checked
returns-in_err-checked c = refuses (c.fits.ensures ∙ three-registers _) c.checked.ensures _ _ _ c.in_err-checked.was c.from_residual.ensures.1

pub new-requires : goal.new-requires
new-requires c = rw c.bytes.ensures (parts_in register register register unused (parts_of c.args.w) (passed (c.fits.ensures ∙ three-registers _) c.checked.ensures c.in_ok-checked.was)).one

pub new-requires-2 : goal.new-requires-2
new-requires-2 c = rw c.bytes-2.ensures (parts_in register register register unused (parts_of c.args.w) (passed (c.fits.ensures ∙ three-registers _) c.checked.ensures c.in_ok-checked.was)).two

pub new-requires-3 : goal.new-requires-3
new-requires-3 c = rw c.bytes-3.ensures (parts_in register register register unused (parts_of c.args.w) (passed (c.fits.ensures ∙ three-registers _) c.checked.ensures c.in_ok-checked.was)).three

pub returns : goal.returns
returns c = gives _ _ _ (passed (c.fits.ensures ∙ three-registers _) c.checked.ensures c.in_ok-checked.was) cc
