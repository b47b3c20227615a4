-- `answers::words::unpack` meets its contract. Assumes nothing.
use mathlib.Core.Path.{refl, sym}
use native.Mathlib.Omega.{arith}
use lib.Seq.{length-take-le}
use Rattle.answers.specs.Words.{unpacked}
use Rattle.answers.proofs.words.unpack.Goals as goal

pub slice_bounds-copy_from_slice-end-2 : goal.slice_bounds-copy_from_slice-end-2
slice_bounds-copy_from_slice-end-2 c = sym (length-take-le 32 c.args.words.now (omega arith))

pub copy_from_slice-requires : goal.copy_from_slice-requires
copy_from_slice-requires c = sym (length-take-le 32 c.args.words.now (omega arith))

pub returns : goal.returns
unfolding unpacked
returns c = rw (c.copy_from_slice.ensures.after, c.unpack_names.ensures) refl
