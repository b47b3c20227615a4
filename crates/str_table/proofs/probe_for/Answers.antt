-- `str_table::probe_for` meets its contract. Assumes nothing.
use borrow.Author.Rules.{rules}
use Rattle.str_table.proofs.probe_for.Goals as goal

pub returns : goal.returns
returns g c = c.look_up.ensures.probed _ (λ v r h p. search rules)
