-- `text::sections::Numbers::put`: its loop. Assumes nothing.
use Rattle.text.specs.Left.{numbers_left}
use Rattle.text.proofs.Laying.{Laying}
use Rattle.text.proofs.sections.Numbers.put.Given as goal

abbrev pub invariant-loop-number : goal.invariant-loop-number
invariant-loop-number l =
    (goal.iterator-loop-number).can_next l.number-iterator × (goal.iterator-loop-number).is_finite l.number-iterator
    × Laying (numbers_left l.initial.self) l.initial.buf l.at (numbers_left l.number-iterator) l.buf l.n
