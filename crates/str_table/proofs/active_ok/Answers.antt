-- `str_table::active_ok` meets its contract. Assumes nothing.
use mathlib.Core.Path.{refl}
use borrow.Author.Tests.{eq-eqb, ne_eqb, le-leb, lt-leb}
use Rattle.str_table.specs.Sound.{active_ok}
use Rattle.str_table.proofs.active_ok.Goals as goal

pub returns-then-active-eq0 : goal.returns-then-active-eq0
unfolding active_ok
returns-then-active-eq0 c = rw (le-leb _ _ c.if-active-lent.true, eq-eqb _ _ c.if-active-eq0.true) refl

pub returns-else-active-eq0 : goal.returns-else-active-eq0
unfolding active_ok
returns-else-active-eq0 c = rw (le-leb _ _ c.if-active-lent.true, ne_eqb _ _ c.if-active-eq0.false) c.slot_count.ensures

pub returns-else-active-lent : goal.returns-else-active-lent
unfolding active_ok
returns-else-active-lent c = rw (lt-leb _ _ c.if-active-lent.false) refl
