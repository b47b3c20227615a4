-- `string::name::is_small` meets its contract. Assumes nothing.
use mathlib.Core.Path.{sym, ◌∙◌}
use native.Mathlib.Omega.{arith}
use borrow.Author.Tests.{ne_eqb, le-ltb}
use Rattle.string.proofs.SmallOk.{small_whole, small_shifted}
use Rattle.string.proofs.name.is_small.Goals as goal

pub returns-then-len-eq8 : goal.returns-then-len-eq8
returns-then-len-eq8 c = small_whole _ _ (omega arith) (omega arith)

pub returns-then-len-lt8 : goal.returns-then-len-lt8
returns-then-len-lt8 c = small_shifted _ _ c.if-len-lt8.true

pub returns-else-len-lt8 : goal.returns-else-len-lt8
returns-else-len-lt8 c =
    le-ltb _ _ c.if-len-lt8.false ∙ sym (ne_eqb c.args.len 8 c.if-len-eq8.false)
    ∙ small_whole _ _ c.if-len-lt8.false (omega arith)
