-- `str_table::get` meets its contract. Assumes nothing.
use mathlib.Core.Path.{sym, ap, ◌∙◌}
use Rattle.str_table.specs.Table.{found_value}
use Rattle.str_table.proofs.Probes.{found_none}
use Rattle.str_table.proofs.get.Goals as goal

pub returns-in-Found : goal.returns-in-Found
returns-in-Found g c = ap found_value (sym c.in-Found.is ∙ c.probe_for.ensures)

pub returns-in-Vacant : goal.returns-in-Vacant
returns-in-Vacant g c = sym (found_none _ c.in-Vacant.is) ∙ ap found_value c.probe_for.ensures
