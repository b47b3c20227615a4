-- `string::name::SmallName::new` meets its contract. Assumes nothing.
use mathlib.Core.Path.{sym, ◌∙◌}
use Rattle.string.proofs.SmallOk.{small_says}
use Rattle.string.proofs.name.SmallName.new.Goals as goal

pub invariant_of-result : goal.invariant_of-result
invariant_of-result c =
    let fine = small_says c.args.len c.args.word (sym c.is_small.ensures ∙ c.if-not-is_small.false) in
    record { few = fine.0; padded = fine.1 }
