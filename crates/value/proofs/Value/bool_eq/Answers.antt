-- `value::Value::bool_eq` meets its contract: the two calls' contracts, put together. Assumes nothing.
use Rattle.value.proofs.Value.bool_eq.Goals as goal

pub returns : goal.returns
returns c = cc
