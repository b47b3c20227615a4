-- `value::double::sub` meets its contract: the three calls' contracts, put together. Assumes nothing.
use Rattle.value.proofs.double.sub.Goals as goal

pub returns : goal.returns
returns c = cc
