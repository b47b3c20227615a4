-- `text::digits::number`: its loops. Assumes nothing.
use Rattle.std.proofs.Common.{◌≡◌, length, take}
use Rattle.memory.specs.Lists.{part}
use Rattle.text.specs.Digits.{read_on}
use Rattle.text.proofs.digits.number.Given as goal

abbrev pub invariant-loop-c : goal.invariant-loop-c
invariant-loop-c l =
    (goal.iterator-loop-c).can_next l.c-iterator × (goal.iterator-loop-c).is_finite l.c-iterator
    × (l.w ≡ read_on 0 (take (length l.yielded) (part l.from l.width l.p)))
