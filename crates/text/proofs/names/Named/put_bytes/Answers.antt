-- `text::names::Named::put_bytes` meets its contract. Assumes nothing.
use Rattle.std.proofs.Common.{◌≡◌, length, arith, rules, sym, ◌∙◌}
use Rattle.memory.specs.Lists.{write}
use Rattle.text.proofs.Entries.{numbers_more, numbers-none, length-numbers}
use Rattle.text.proofs.Laying.{laying_next, laying_end}
use Rattle.text.proofs.Numbers.{field_small}
use Rattle.text.proofs.names.Named.put_bytes.Goals as goal

pub overflow_cast-number : goal.overflow_cast-number
overflow_cast-number c = omega (arith, c.number.ensures, field_small 0 2 c.in-Some.pair.now)

pub loop-i-preserved : goal.loop-i-preserved
loop-i-preserved c =
    let inv = c.loop-i.invariant in
    let steps = c.in-Some.ensures.steps in
    let long : length c.in-Some.pair.now ≡ 2 = steps.0.1.1 ∙ inv.2 in
    let next = laying_next inv.3 (numbers_more {width = 2} _ c.in-Some.pair.now _ (omega arith) steps.0.1.0 long) in
    (search rules, search rules, steps.0.0 ∙ inv.2, rw (c.put_at.ensures, c.number.ensures, steps.1, steps.2) next)

pub returns : goal.returns
unfolding write
returns c =
    let inv = c.loop-i.invariant in
    let steps = c.in-None.ensures.steps in
    let laid = laying_end inv.3 (numbers-none {width = 2} _ (omega (arith, inv.2, steps.0.1.0))) in
    (sym (length-numbers 2 _ _), laid.is)
