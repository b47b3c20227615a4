-- `program::image::Tables::new` meets its contract. Assumes nothing.
use mathlib.Core.Path.{refl, sym, ◌∙◌}
use Rattle.program.specs.Image.{tables_ok}
use Rattle.program.proofs.image.Tables.new.Goals as goal

pub returns-then-not-tables_fit : goal.returns-then-not-tables_fit
unfolding tables_ok
returns-then-not-tables_fit c = rw (sym c.tables_fit.ensures ∙ c.if-not-tables_fit.true) refl

pub returns-then-not-rising : goal.returns-then-not-rising
unfolding tables_ok
returns-then-not-rising c =
    rw (sym c.tables_fit.ensures ∙ c.if-not-tables_fit.false, sym c.rising.ensures ∙ c.if-not-rising.true) refl

pub invariant_of-result : goal.invariant_of-result
unfolding tables_ok
invariant_of-result c =
    rw (sym c.tables_fit.ensures ∙ c.if-not-tables_fit.false, sym c.rising.ensures ∙ c.if-not-rising.false) refl

pub returns : goal.returns
unfolding tables_ok
returns c = (rw (sym c.tables_fit.ensures ∙ c.if-not-tables_fit.false, sym c.rising.ensures ∙ c.if-not-rising.false) refl, refl)
