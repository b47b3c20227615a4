-- `image_words::join`: its loop. Assumes nothing.
use Rattle.std.proofs.Common.{map, drop}
use Rattle.text.specs.Sections.{section_in}
use Rattle.image_words.proofs.Joins.{Joining}
use Rattle.image_words.specs.Said.{image_said}
use Rattle.image_words.proofs.join.Given as goal

abbrev pub invariant-loop-i : goal.invariant-loop-i
invariant-loop-i l =
    Joining (image_said l.input) l.initial.words (map (λ section. section_in section l.input) (drop l.i l.section-items)) l.i l.end l.words
