-- `text::sections::gather` meets its contract. Assumes nothing.
use Rattle.std.proofs.Common.{arith}
use Rattle.text.proofs.Gathering.{gather_start, gather_end, numbers_fit, gather_next}
use Rattle.text.proofs.sections.gather.Goals as goal

pub loop-line-init : goal.loop-line-init
loop-line-init c = (tt, tt, rw (c.into_iter-line-iterator.ensures.into_iter_gives, c.default-ends.ensures.0, c.default-ends.ensures.1) (gather_start c.args.s.now c.args.section _))

pub put-n-requires : goal.put-n-requires
put-n-requires c =
    omega (arith, numbers_fit c.loop-line.invariant.2 c.in-Some.ensures.steps c.with-ends.ensures.targets c.with-ends.ensures.values c.numbers.ensures)

pub loop-line-preserved : goal.loop-line-preserved
loop-line-preserved c =
    (tt, tt, gather_next c.loop-line.invariant.2 c.in-Some.ensures.steps c.with-ends.ensures.targets c.with-ends.ensures.values c.numbers.ensures c.put-n.ensures)

pub returns : goal.returns
returns c = gather_end c.loop-line.invariant.2 c.in-None.ensures.steps.0
