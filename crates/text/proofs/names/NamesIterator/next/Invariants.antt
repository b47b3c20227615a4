-- `Iterator::next` of `text::names::Names`: its loop. Assumes nothing.
use Rattle.std.proofs.Common.{◌≡◌, length}
use Rattle.text.specs.Lines.{lines_in}
use Rattle.text.specs.Left.{names_left}
use Rattle.text.proofs.names.NamesIterator.next.Given as goal

abbrev pub invariant-loop-line : goal.invariant-loop-line
invariant-loop-line l = names_left l.self ≡ names_left l.initial.self

abbrev pub decreases-loop-line : goal.decreases-loop-line
decreases-loop-line l = length (lines_in l.self.lines.0.now)
