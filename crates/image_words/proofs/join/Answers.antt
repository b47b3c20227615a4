-- `image_words::join` meets its contract. Assumes nothing.
use Rattle.std.proofs.Common.{arith}
use Rattle.text.specs.Sections.{section_in}
use Rattle.image_words.specs.Said.{image_said}
use Rattle.image_words.proofs.Joins.{joining_next, joined-all, joined_long, section_within, items_step, items_end}
use Rattle.image_words.proofs.join.Goals as goal

pub put_section-end-requires : goal.put_section-end-requires
put_section-end-requires c =
    section_within c.loop-i.invariant c.requires (items_step (λ section. section_in section c.args.input.now) _ _ _ c.loop-i-test.true)

pub loop-i-preserved : goal.loop-i-preserved
loop-i-preserved c =
    joining_next c.loop-i.invariant c.requires (items_step (λ section. section_in section c.args.input.now) _ _ _ c.loop-i-test.true)
    c.put_section-end.ensures

pub bounds-words-i : goal.bounds-words-i
bounds-words-i c =
    omega (arith, c.put_section-end.auto.words, c.loop-i.invariant.long, joined_long (image_said c.args.input.now), c.requires, c.loop-i-test.true)

pub returns : goal.returns
returns c = joined-all c.loop-i.invariant c.requires (items_end (λ section. section_in section c.args.input.now) _ _ c.loop-i-test.false)
