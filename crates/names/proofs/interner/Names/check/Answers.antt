-- `names::interner::Names::check` meets its contract. Assumes nothing.
use mathlib.Core.Path.{◌∙◌}
use Rattle.std.proofs.lemmas.Result.{err_from_is_err_and}
use Rattle.names.proofs.Tests.{large-fails, paired-fails, paged-fails, tabled-is}
use Rattle.names.proofs.interner.Names.check.Goals as goal

pub returns-in_err-heap_fits : goal.returns-in_err-heap_fits
returns-in_err-heap_fits c =
    λ rest l. let p = err_from_is_err_and c.from_residual.result c.from_residual.ensures.1 in
    rw (p.1, p.2) (large-fails rest l _ _ _ _ _ c.in_err-heap_fits.ensures)

pub returns-in_err-slots_fit : goal.returns-in_err-slots_fit
returns-in_err-slots_fit c =
    λ rest l. let p = err_from_is_err_and c.from_residual-in_err-slots_fit.result c.from_residual-in_err-slots_fit.ensures.1 in
    rw (p.1, p.2) (paired-fails rest l _ _ _ _ c.in_ok-heap_fits.ensures _ c.in_err-slots_fit.ensures)

pub returns-in_err-pages_belong : goal.returns-in_err-pages_belong
returns-in_err-pages_belong c =
    λ rest l. let p = err_from_is_err_and c.from_residual-in_err-pages_belong.result c.from_residual-in_err-pages_belong.ensures.1 in
    rw (p.1, p.2)
    (paged-fails rest l _ _ _ _ c.in_ok-heap_fits.ensures c.in_ok-slots_fit.ensures _ c.in_err-pages_belong.ensures)

pub returns : goal.returns
returns c =
    λ rest l. c.names_belong.ensures
    ∙ tabled-is rest l _ _ _ _ c.in_ok-heap_fits.ensures c.in_ok-slots_fit.ensures c.in_ok-pages_belong.ensures
