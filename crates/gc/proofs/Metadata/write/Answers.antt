-- `gc::Metadata::write` meets its contract. Assumes nothing.
use mathlib.Core.Path.{ap, ◌∙◌}
use Rattle.memory.specs.Bytes.{bytes_of}
use Rattle.memory.specs.Lists.{write}
use Rattle.gc.proofs.Headers.{header_written}
use borrow.Author.Rules.{rules}
use Rattle.gc.proofs.Metadata.write.Goals as goal

pub returns : goal.returns
returns c =
    let m = c.args.self in
    c.store-2.ensures ∙ ap (write 8 (bytes_of 8 c.from.result)) c.store.ensures
    ∙ header_written m.size m.flags c.from.result c.args.to.now c.from.ensures (search rules)
