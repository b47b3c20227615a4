-- `str_table::slot_count` meets its contract. Assumes nothing.
use mathlib.Core.Path.{◌∙◌}
use Rattle.str_table.proofs.Counting.{list_any-slot_count}
use Rattle.str_table.proofs.slot_count.Goals as goal

pub returns : goal.returns
returns c = c.contains.ensures.value ∙ list_any-slot_count c.args.n
