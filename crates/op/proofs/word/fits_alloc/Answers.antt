-- `fits_alloc` meets its contract. Assumes nothing.
use Rattle.op.proofs.Masks.{alloc}
use Rattle.op.proofs.word.fits_alloc.Goals as goal

pub returns : goal.returns
returns c = rw (← alloc) cc
