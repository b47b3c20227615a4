-- `program::loader::ends_in_halt` meets its contract. Assumes nothing.
use Rattle.std.proofs.Common.{sym, ◌∙◌, eqb-true}
use borrow.Author.Tests.{eqb-false}
use Rattle.program.proofs.Images.{no_code, last_word}
use Rattle.program.proofs.loader.ends_in_halt.Goals as goal

pub returns-then-is_empty : goal.returns-then-is_empty
returns-then-is_empty c = c.if-is_empty.true ∙ no_code _ (eqb-true _ 0 (sym c.is_empty.ensures ∙ c.if-is_empty.true))

pub returns-else-is_empty : goal.returns-else-is_empty
returns-else-is_empty c = last_word _ (eqb-false _ 0 (sym c.is_empty.ensures ∙ c.if-is_empty.false))
