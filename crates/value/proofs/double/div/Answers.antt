-- `value::double::div` meets its contract: the three calls' contracts, put together. Assumes nothing.
use Rattle.value.proofs.double.div.Goals as goal

pub returns : goal.returns
returns c = cc
