-- `value::double::lt` meets its contract: the two calls' contracts, put together. Assumes nothing.
use Rattle.value.proofs.double.lt.Goals as goal

pub returns : goal.returns
returns c = cc
