-- `value::Value::f64_to_int` meets its contract: a law for each case, in the order of IEEE 754, 3.4. Assumes nothing.
use Rattle.std.proofs.Common.{arith}
use lib.Ieee.{nan_bits}
use Rattle.value.proofs.Fields.{nan_is_0, top_end, bottom_end, size-kept, size_negated, below-one-is_0}
use Rattle.value.proofs.Value.f64_to_int.Goals as goal

-- a)
pub returns-then-exponent-trailing : goal.returns-then-exponent-trailing
unfolding nan_bits
returns-then-exponent-trailing c = nan_is_0 c.args.self.0 c.if-exponent-trailing.true

-- b), and c) from 1,086 on
pub returns-then-sign-eq0 : goal.returns-then-sign-eq0
unfolding nan_bits
returns-then-sign-eq0 c = top_end c.args.self.0 (omega arith) c.if-exponent-trailing.false (omega arith)

pub returns-then-exponent-trailing-2 : goal.returns-then-exponent-trailing-2
unfolding nan_bits
returns-then-exponent-trailing-2 c = bottom_end c.args.self.0 (omega arith) c.if-exponent-trailing.false (omega arith)

pub returns-then-exponent-ge-TWO_63 : goal.returns-then-exponent-ge-TWO_63
unfolding nan_bits
returns-then-exponent-ge-TWO_63 c = bottom_end c.args.self.0 (omega arith) c.if-exponent-trailing.false (omega arith)

-- c) from 1,023 to 1,085
pub returns-then-sign-eq1 : goal.returns-then-sign-eq1
returns-then-sign-eq1 c =
    size_negated c.args.self.0 (omega arith) (omega arith) (omega arith)
    c.wrapping_neg.result (omega arith) c.wrapping_neg.ensures

pub returns-then-exponent-ge-BIAS : goal.returns-then-exponent-ge-BIAS
returns-then-exponent-ge-BIAS c = size-kept c.args.self.0 (omega arith) (omega arith) (omega arith)

-- c) below 1,023, d) and e)
pub returns : goal.returns
returns c = below-one-is_0 c.args.self.0 (omega arith)
