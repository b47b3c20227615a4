-- `program::loader::words_ok` meets its contract. Assumes nothing.
use Rattle.std.proofs.Common.{refl, sym, ◌∙◌}
use Rattle.std.proofs.lemmas.Result.{err_from_is_err_and}
use Rattle.program.proofs.Images.{word_fails, word_on, words-end}
use Rattle.program.proofs.loader.words_ok.Goals as goal

pub loop-w-init : goal.loop-w-init
loop-w-init c = refl

pub returns-in_err-check : goal.returns-in_err-check
returns-in_err-check c =
    let p = err_from_is_err_and c.from_residual.result c.from_residual.ensures.1 in
    rw (p.1, p.2) (word_fails _ _ _ c.loop-w.invariant _ c.loop-w-test.true (sym c.check.ensures ∙ c.in_err-check.was))

pub loop-w-preserved : goal.loop-w-preserved
loop-w-preserved c = word_on _ _ _ c.loop-w.invariant c.loop-w-test.true (sym c.check.ensures ∙ c.in_ok-check.was)

pub returns : goal.returns
returns c = words-end _ _ _ c.loop-w.invariant c.loop-w-test.false
