-- `program::image::Image::load` meets its contract, test by test. Assumes nothing.
use Rattle.std.proofs.Common.{true, sym, ◌∙◌}
use Rattle.std.proofs.lemmas.Result.{err_from_is_err_and}
use Rattle.program.proofs.Images.{refused_10, refused_11, refused_16, word_by_word}
use Rattle.program.proofs.image.Image.load.Goals as goal

pub returns-in_default-clause-refused : goal.returns-in_default-clause-refused
returns-in_default-clause-refused c = refused_10 true _ c.in_default.ensures

pub returns-then-not-ends_in_halt-clause-refused : goal.returns-then-not-ends_in_halt-clause-refused
returns-then-not-ends_in_halt-clause-refused c =
    rw (← c.in-Some.ensures.1)
    (refused_11 true _ c.in-Some.ensures.0 (rw c.code-code.ensures at (sym c.ends_in_halt.ensures ∙ c.if-not-ends_in_halt.true)))

pub returns-then-not-below-clause-refused : goal.returns-then-not-below-clause-refused
returns-then-not-below-clause-refused c =
    rw (← c.in-Some.ensures.1)
    (refused_16 true _ c.in-Some.ensures.0 (rw c.code-code.ensures at (sym c.ends_in_halt.ensures ∙ c.if-not-ends_in_halt.false))
    (rw (c.code-code.ensures, c.entries.ensures, c.switches.ensures) at (sym c.below.ensures ∙ c.if-not-below.true)))

pub returns-in_err-words_ok-clause-refused : goal.returns-in_err-words_ok-clause-refused
returns-in_err-words_ok-clause-refused c =
    let p = err_from_is_err_and c.from_residual.result c.from_residual.ensures.1 in
    rw (p.1, p.2, ← c.in-Some.ensures.1)
    ((rw (c.in_err-words_ok.was, c.counts.ensures, c.code-code.ensures) at c.words_ok.ensures)
    ∙ word_by_word true _ c.in-Some.ensures.0 (rw c.code-code.ensures at (sym c.ends_in_halt.ensures ∙ c.if-not-ends_in_halt.false))
    (rw (c.code-code.ensures, c.entries.ensures, c.switches.ensures) at (sym c.below.ensures ∙ c.if-not-below.false)))

pub returns-clause-refused : goal.returns-clause-refused
returns-clause-refused c =
    rw (← c.in-Some.ensures.1)
    ((rw (c.in_ok-words_ok.was, c.counts.ensures, c.code-code.ensures) at c.words_ok.ensures)
    ∙ word_by_word true _ c.in-Some.ensures.0 (rw c.code-code.ensures at (sym c.ends_in_halt.ensures ∙ c.if-not-ends_in_halt.false))
    (rw (c.code-code.ensures, c.entries.ensures, c.switches.ensures) at (sym c.below.ensures ∙ c.if-not-below.false)))
