-- `answers::words::NamesPackFront::pack_front` meets its contract. Assumes nothing.
use Rattle.answers.proofs.Packing.{names-home}
use Rattle.answers.proofs.words.NamesPackFront.pack_front.Goals as goal

pub returns : goal.returns
returns c = names-home c.args.words.now _ c.args.self c.requires c.copy_from_slice.ensures.after
