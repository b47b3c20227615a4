-- `text::sections::gather`: its loop. Assumes nothing.
use Rattle.text.specs.Lines.{lines_in}
use Rattle.text.proofs.Gathering.{Gathered}
use Rattle.text.proofs.sections.gather.Given as goal

abbrev pub invariant-loop-line : goal.invariant-loop-line
invariant-loop-line l =
    (goal.iterator-loop-line).can_next l.line-iterator × (goal.iterator-loop-line).is_finite l.line-iterator
    × Gathered l.s l.section l.initial.buf (lines_in l.line-iterator.0.now) l.ends.targets l.ends.values l.buf l.n
