-- `program::image::Sections::cut` meets its contract. Assumes nothing.
use mathlib.Core.Path.{sym, ◌∙◌}
use Rattle.program.proofs.Layouts.{ordered, unfit_sized, too_long, image-is}
use Rattle.program.proofs.image.Sections.cut.Goals as goal

pub returns-then-words-gt-LONGEST_IMAGE : goal.returns-then-words-gt-LONGEST_IMAGE
returns-then-words-gt-LONGEST_IMAGE c = too_long _ c.if-words-gt-LONGEST_IMAGE.true

pub returns-then-not-fits : goal.returns-then-not-fits
returns-then-not-fits c = unfit_sized _ (sym c.fits.ensures ∙ c.if-not-fits.true)

pub of-requires : goal.of-requires
of-requires c = ordered _ (sym c.fits.ensures ∙ c.if-not-fits.false)

pub returns : goal.returns
returns c = c.of.ensures ∙ sym (image-is _ (sym c.fits.ensures ∙ c.if-not-fits.false))
