-- `value::double::mul` meets its contract: the three calls' contracts, put together. Assumes nothing.
use Rattle.value.proofs.double.mul.Goals as goal

pub returns : goal.returns
returns c = cc
