-- `value::Value::as_int` meets its contract. Assumes nothing.
use Rattle.std.proofs.Common.{◌∙◌}
use Rattle.value.proofs.Patterns.{kept, to_z_signed}
use Rattle.value.proofs.Value.as_int.Goals as goal

pub returns : goal.returns
returns c = kept _ c.cast_signed.type_inv ∙ c.cast_signed.ensures ∙ to_z_signed c.args.self.0
