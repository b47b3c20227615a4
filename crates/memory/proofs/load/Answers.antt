-- `memory::load` meets its contract. Assumes nothing.
use Rattle.memory.proofs.Bytes.{loaded}
use borrow.Author.Rules.{rules}
use Rattle.memory.proofs.load.Goals as goal

pub returns : goal.returns
returns g c =
    let at = c.args.at in
    let number = loaded c.args.s.now at g.row.N _ _ (λ i. search rules) c.requires.word c.requires.room c.copy_from_slice.ensures.after
    c.from_le_bytes.ensures in
    record { value = number.is; small = number.small }
