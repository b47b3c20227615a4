-- `string::name::SmallNameName::len` meets its contract. Assumes nothing.
use mathlib.Core.Path.{sym}
use native.Mathlib.Omega.{arith}
use Rattle.string.proofs.Small.{small_length}
use Rattle.string.proofs.name.SmallNameName.len.Goals as goal

pub returns : goal.returns
returns c = let name = c.args.self in (sym (small_length name.len name.word name.few), omega (arith, name.few))
