-- `names::intern` meets its contract. Assumes nothing.
use Rattle.names.proofs.intern.Goals as goal

pub returns : goal.returns
returns g c = λ l. rw c.from-names.ensures at (c.intern-value.ensures c.args.state.now l)
