-- `str_table::place` meets its contract. Assumes nothing.
use mathlib.Core.Path.{sym, ◌∙◌}
use borrow.Author.Rules.{rules}
use Rattle.str_table.specs.declared.Probe.TheVariants.{Vacant}
use Rattle.str_table.specs.Table.{never, filled}
use Rattle.str_table.proofs.Probes.{placed-is, filled_none}
use Rattle.str_table.proofs.place.Goals as goal

pub bounds-slots-i : goal.bounds-slots-i
bounds-slots-i c = c.look_up.ensures.inside _ c.in-Vacant.is

pub returns-in-Vacant : goal.returns-in-Vacant
unfolding filled never
returns-in-Vacant c = placed-is _ _ _ (Vacant c.in-Vacant.i) (sym c.in-Vacant.is ∙ c.look_up.ensures.probed never (λ v r h p. search rules))

pub returns-in_default : goal.returns-in_default
unfolding never
returns-in_default c =
    sym (filled_none c.args.v c.args.slots.now c.look_up.result c.in_default.not-Vacant)
    ∙ placed-is _ _ _ c.look_up.result (c.look_up.ensures.probed never (λ v r h p. search rules))
