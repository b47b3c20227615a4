-- `vm::kind_of` meets its contract. Assumes nothing.
use mathlib.Core.Path.{sym, ◌∙◌}
use Rattle.vm.proofs.Tested.{not_aligned, by_kind}
use Rattle.vm.proofs.kind_of.Goals as goal

pub returns-then-not-is_alignment-clause-test : goal.returns-then-not-is_alignment-clause-test
returns-then-not-is_alignment-clause-test c = rw (sym c.is_alignment.ensures ∙ c.if-not-is_alignment.true) (not_aligned _ _)

pub returns-clause-test : goal.returns-clause-test
returns-clause-test c = rw (c.or.ensures, sym c.is_alignment.ensures ∙ c.if-not-is_alignment.false) (by_kind _ _ _ c.try_from.ensures)
