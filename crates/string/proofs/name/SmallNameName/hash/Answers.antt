-- `string::name::SmallNameName::hash` meets its contract. Assumes nothing.
use mathlib.Core.Path.{◌∙◌}
use Rattle.string.proofs.Small.{small_hash_is}
use Rattle.string.proofs.name.SmallNameName.hash.Goals as goal

pub returns : goal.returns
returns c = let name = c.args.self in c.small_hash.ensures ∙ small_hash_is name.len name.word name.few name.padded
