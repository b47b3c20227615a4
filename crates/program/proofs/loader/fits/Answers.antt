-- `program::loader::fits` meets its contract. Assumes nothing.
use mathlib.Core.Path.{sym}
use lib.Seq.{length-take-le}
use Rattle.program.specs.Words.{fits}
use Rattle.program.proofs.Layouts.{short}
use Rattle.program.proofs.loader.fits.Goals as goal

pub returns-then-words-lt-HEADER : goal.returns-then-words-lt-HEADER
returns-then-words-lt-HEADER c = short _ c.if-words-lt-HEADER.true

pub slice_bounds-rising-end : goal.slice_bounds-rising-end
slice_bounds-rising-end c =
    sym (length-take-le 9 c.args.words.now c.if-words-lt-HEADER.false)

pub returns : goal.returns
unfolding fits
returns c = c.rising.ensures
