-- `answers::words::StatePackFront::pack_front` meets its contract. Assumes nothing.
use mathlib.Core.Path.{◌≡◌, sym, ◌∙◌}
use native.Mathlib.Omega.{arith}
use lib.ListN.{length}
use lib.Seq.{length-take-le}
use borrow.Author.Rules.{rules}
use Rattle.answers.proofs.Packing.{packed-home-front}
use Rattle.answers.proofs.words.StatePackFront.pack_front.Goals as goal

pub slice_bounds-copy_from_slice-end-2 : goal.slice_bounds-copy_from_slice-end-2
slice_bounds-copy_from_slice-end-2 c = sym (length-take-le 32 c.args.words.now (omega arith))

pub copy_from_slice-requires : goal.copy_from_slice-requires
copy_from_slice-requires c =
    let long : length c.args.self.regs ≡ 32 = search rules in
    length-take-le 32 c.args.words.now (omega arith) ∙ sym long

pub returns : goal.returns
returns c =
    let long : length c.args.self.regs ≡ 32 = search rules in
    (rw (c.copy_from_slice.ensures.after, c.from.ensures) at c.pack_front.ensures)
    ∙ packed-home-front c.args.self c.args.words.now long c.requires
