-- `string::name::SmallNameName::is` meets its contract. Assumes nothing.
use native.Mathlib.Omega.{arith}
use Rattle.string.proofs.Small.{small_same}
use Rattle.string.proofs.name.SmallNameName.is.Goals as goal

pub returns : goal.returns
returns c =
    let name = c.args.self in
    small_same name.len name.word name.few name.padded c.args.s.now (λ i. omega (arith, c.type_inv.s i)) c.requires _ c.small_word.ensures
