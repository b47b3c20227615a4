-- `program::image::Image::cut` meets its contract, test by test. Assumes nothing.
use Rattle.std.proofs.Common.{sym, ◌∙◌}
use Rattle.program.proofs.Layouts.{too_long_section, no_switches, no_lookups, image_made}
use Rattle.program.proofs.image.Image.cut.Goals as goal

pub returns-then-not-sizes_ok : goal.returns-then-not-sizes_ok
returns-then-not-sizes_ok c = rw (← c.in_ok-sections.ensures) (too_long_section _ (sym c.sizes_ok.ensures ∙ c.if-not-sizes_ok.true))

pub returns-in_err-switches : goal.returns-in_err-switches
returns-in_err-switches c =
    rw (c.from_residual-in_err-switches.ensures, ← c.in_ok-sections.ensures, ← c.sections.view_is)
    (no_switches _ (rw (← c.sections.view_is) at (sym c.sizes_ok.ensures ∙ c.if-not-sizes_ok.false)) c.in_err-switches.ensures)

pub returns-in_err-lookups : goal.returns-in_err-lookups
returns-in_err-lookups c =
    rw (c.from_residual-in_err-lookups.ensures, ← c.in_ok-sections.ensures, ← c.sections.view_is)
    (no_lookups _ (rw (← c.sections.view_is) at (sym c.sizes_ok.ensures ∙ c.if-not-sizes_ok.false)) (rw c.in_ok-switches.ensures.1 at c.in_ok-switches.ensures.0) c.in_err-lookups.ensures)

pub returns : goal.returns
returns c =
    rw (← c.in_ok-sections.ensures, ← c.sections.view_is)
    (image_made _ (rw (← c.sections.view_is) at (sym c.sizes_ok.ensures ∙ c.if-not-sizes_ok.false)) (rw c.in_ok-switches.ensures.1 at c.in_ok-switches.ensures.0)
    (rw c.in_ok-lookups.ensures.1 at c.in_ok-lookups.ensures.0) c.new-3.result
    (rw (c.in_ok-switches.ensures.1, c.in_ok-lookups.ensures.1) at c.new-3.ensures))
