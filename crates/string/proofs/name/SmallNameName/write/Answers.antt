-- `string::name::SmallNameName::write` meets its contract. Assumes nothing.
use mathlib.Core.Path.{ap, ◌∙◌}
use lib.ListN.{take}
use Rattle.memory.specs.Lists.{over}
use Rattle.string.proofs.Small.{small_taken}
use Rattle.string.proofs.name.SmallNameName.write.Goals as goal

pub copy-requires : goal.copy-requires
copy-requires c =
    let name = c.args.self in
    rw (c.to_le_bytes.ensures, small_taken name.len name.word name.few) c.requires

pub returns : goal.returns
returns c =
    let name = c.args.self in
    c.copy.ensures
    ∙ ap (λ l. over l c.args.to.now) (ap (take name.len) c.to_le_bytes.ensures ∙ small_taken name.len name.word name.few)
