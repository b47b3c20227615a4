-- `value::int::rem` meets its contract. Assumes nothing.
use Rattle.std.proofs.Common.{◌≡◌, ◌∙◌, sym, Err}
use borrow.Author.Rules.{rules}
use Rattle.value.proofs.Divides.{refused, divisor_above_zero, quotient_in_range, remainder}
use Rattle.value.proofs.int.rem.Goals as goal

pub returns-in_err-x : goal.returns-in_err-x
returns-in_err-x c =
    let e : c.from_residual.result ≡ Err c.in_err-x.field-0.0 = search rules in
    e ∙ refused _ _ _ _ (sym c.in_err-x.was ∙ c.operands.ensures)

pub nonzero_rem-x : goal.nonzero_rem-x
nonzero_rem-x c =
    let is = sym c.in_ok-x.was ∙ c.operands.ensures in
    (divisor_above_zero c.args.a c.args.b c.ranges.a c.ranges.b is, quotient_in_range c.args.a c.args.b c.ranges.a c.ranges.b is)

pub returns : goal.returns
returns c = remainder c.args.a c.args.b c.ranges.a c.ranges.b (sym c.in_ok-x.was ∙ c.operands.ensures) c.from.ensures
