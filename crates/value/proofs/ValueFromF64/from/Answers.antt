-- `value::ValueFromF64::from` meets its contract. Assumes nothing.
use Rattle.std.proofs.Common.{refl, sym, ◌∙◌}
use Rattle.value.specs.Double.{bits}
use Rattle.value.proofs.ValueFromF64.from.Goals as goal

pub returns-then-is_nan : goal.returns-then-is_nan
unfolding bits
returns-then-is_nan c = rw (sym c.is_nan.ensures.value ∙ c.if-is_nan.true) refl

pub returns-else-is_nan : goal.returns-else-is_nan
unfolding bits
returns-else-is_nan c = rw (sym c.is_nan.ensures.value ∙ c.if-is_nan.false) refl
