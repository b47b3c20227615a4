-- `text::digits::number` meets its contract. Assumes nothing.
use Rattle.std.proofs.Common.{◌≡◌, ◌<◌, get_or, length, arith}
use Rattle.std.proofs.lemmas.Iterator.Consumers.{YieldsList-turn, YieldsList-end, YieldsList-at}
use Rattle.std.proofs.lemmas.List.{length_push, take_all}
use Rattle.memory.specs.Lists.{part}
use Rattle.text.proofs.Numbers.{YieldsList-part, number_small, number_more, digit_small}
use Rattle.text.proofs.digits.number.Goals as goal
use Rattle.text.proofs.digits.number.Goals.{In-Some}

-- the next of the digits that the loop goes over
turn : (c : In-Some) → let digits = part c.args.from c.args.width c.args.p.now in let n = length c.loop-c.yielded in let d = c.in-Some.field-0.now in
    (n < length digits) × (d ≡ get_or digits n d)
turn c =
    let road = YieldsList-at c.into_iter-c-iterator.ensures.into_iter_gives (YieldsList-part c.args.from c.args.width c.args.p.now
    c.iter.ensures.rest c.skip.ensures.source c.skip.ensures.count c.take-c-items.ensures.source c.take-c-items.ensures.count) in
    YieldsList-turn road c.loop-c.yielded _ c.loop-c.yielded_by _ _ c.in-Some.field-0 c.in-Some.is c.next.ensures.steps

-- one digit more fits
pub overflow_mul-w : goal.overflow_mul-w
overflow_mul-w c =
    let next = turn (goal.at.overflow_mul-w c).In-Some in
    omega (arith, number_small c.args.from c.args.width c.args.p.now c.requires _ _ c.loop-c.invariant.2 c.in-Some.field-0.now next)

pub overflow_add-w : goal.overflow_add-w
overflow_add-w c =
    let next = turn (goal.at.overflow_add-w c).In-Some in
    omega (
      arith,
      number_small c.args.from c.args.width c.args.p.now c.requires _ _ c.loop-c.invariant.2 c.in-Some.field-0.now next,
      digit_small c.args.from c.args.width c.args.p.now c.requires _ _ c.loop-c.invariant.2 c.in-Some.field-0.now next _ c.digit.ensures,
      c.unwrap_or.ensures,
    )

pub loop-c-preserved : goal.loop-c-preserved
loop-c-preserved c =
    let next = turn (goal.at.loop-c-preserved c).In-Some in
    let more = number_more c.args.from c.args.width c.args.p.now c.requires _ _ c.loop-c.invariant.2 c.in-Some.field-0.now next _ c.digit.ensures in
    (tt, tt, rw (length_push c.loop-c.yielded c.in-Some.field-0, c.unwrap_or.ensures) more)

pub returns : goal.returns
returns c =
    let road = YieldsList-at c.into_iter-c-iterator.ensures.into_iter_gives (YieldsList-part c.args.from c.args.width c.args.p.now
    c.iter.ensures.rest c.skip.ensures.source c.skip.ensures.count c.take-c-items.ensures.source c.take-c-items.ensures.count) in
    let end = YieldsList-end road c.loop-c.yielded _ c.loop-c.yielded_by _ _ c.in-None.is c.next.ensures.steps in
    rw (end.1, take_all (length (part c.args.from c.args.width c.args.p.now)) (part c.args.from c.args.width c.args.p.now) (omega arith)) at c.loop-c.invariant.2
