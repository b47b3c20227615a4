-- `str_table::StrTable::sound` meets its contract. Assumes nothing.
use mathlib.Core.Path.{refl, sym, ◌∙◌}
use lib.Seq.{length-take-le}
use Rattle.str_table.specs.Sound.{sound_of}
use Rattle.str_table.proofs.Counting.{active-within}
use Rattle.str_table.proofs.StrTable.sound.Goals as goal

pub returns-then-not-active_ok : goal.returns-then-not-active_ok
unfolding sound_of
returns-then-not-active_ok c = rw (sym c.active_ok.ensures ∙ c.if-not-active_ok.true) refl

pub slice_bounds-slots_ok-end : goal.slice_bounds-slots_ok-end
slice_bounds-slots_ok-end c =
    sym (length-take-le _ _ (active-within _ _ (sym c.active_ok.ensures ∙ c.if-not-active_ok.false)))

pub returns : goal.returns
unfolding sound_of
returns c = rw (sym c.active_ok.ensures ∙ c.if-not-active_ok.false) c.slots_ok.ensures
