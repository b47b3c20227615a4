-- `value::ValueFromI64::from` meets its contract. Assumes nothing.
use Rattle.std.proofs.Common.{ap, ◌∙◌, to_z-of_z, of_z, w64}
use Rattle.value.proofs.Patterns.{of_z-pattern}
use Rattle.value.proofs.ValueFromI64.from.Goals as goal

pub returns : goal.returns
returns c = c.cast_unsigned.ensures ∙ ap (of_z w64) (to_z-of_z c.ranges.n) ∙ of_z-pattern c.args.n
