-- `value::int::operands` meets its contract. Assumes nothing.
use Rattle.std.proofs.Common.{refl, sym, ◌∙◌, eq-eqb, ne_eqb}
use Rattle.value.specs.Int.{operands_of}
use Rattle.value.proofs.Patterns.{kept}
use Rattle.value.proofs.int.operands.Goals as goal

pub returns-then-b-eq0 : goal.returns-then-b-eq0
unfolding operands_of
returns-then-b-eq0 c = rw (eq-eqb c.args.b 0 c.if-b-eq0.true) refl

pub returns-then-quotient_overflows : goal.returns-then-quotient_overflows
unfolding operands_of
returns-then-quotient_overflows c =
    rw (ne_eqb c.args.b 0 c.if-b-eq0.false, sym c.quotient_overflows.ensures ∙ c.if-quotient_overflows.true) refl

pub returns : goal.returns
unfolding operands_of
returns c =
    rw (
      ne_eqb c.args.b 0 c.if-b-eq0.false,
      sym c.quotient_overflows.ensures ∙ c.if-quotient_overflows.false,
      kept c.as_int.result c.as_int.type_inv,
      kept c.as_int-2.result c.as_int-2.type_inv,
      c.as_int.ensures,
      c.as_int-2.ensures,
    ) refl
