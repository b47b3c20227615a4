-- `run::run` meets its contract. Assumes nothing.
use Rattle.std.proofs.Common.{sym, ◌∙◌}
use Rattle.std.proofs.lemmas.Result.{err_from_is_err_and}
use Rattle.vm.specs.Machine.{act}
use Rattle.vm.proofs.Performed.{refused-is, acted_is}
use Rattle.run.proofs.run.Goals as goal

pub returns-in_err-image : goal.returns-in_err-image
returns-in_err-image c =
    λ l. let p = err_from_is_err_and c.from_residual.result c.from_residual.ensures.1 in
    rw (p.1, p.2) (refused-is _ _ _ (sym (rw c.in_err-image.was at (c.tested.ensures.refused c.args.budget l))))

pub run_checked-requires : goal.run_checked-requires
run_checked-requires c = λ l. rw c.in_ok-image.ensures.image (sym (rw c.in_ok-image.was at (c.tested.ensures.refused c.args.budget l)))

pub returns : goal.returns
unfolding act
returns c =
    λ l. (rw c.in_ok-image.ensures.image at (c.run_checked.ensures l))
    ∙ acted_is _ _ (sym (rw c.in_ok-image.was at (c.tested.ensures.refused c.args.budget l)))
