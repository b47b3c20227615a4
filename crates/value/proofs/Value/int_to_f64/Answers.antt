-- `value::Value::int_to_f64` meets its contract: the three calls' contracts, put together. Assumes nothing.
use Rattle.value.proofs.Patterns.{kept}
use Rattle.value.proofs.Value.int_to_f64.Goals as goal

pub returns : goal.returns
returns c = let n = c.as_int in cc (kept n.result n.type_inv)
