-- What ends are answered with. Assumes nothing.
use mathlib.Core.Path.{◌≡◌, refl}
use Prim.Native.Nat.{ℕ}
use mathlib.Core.List.{List, [], ◌∷◌}
use Rattle.memory.specs.Lists.{over}
use Rattle.anomaly.specs.declared.End.{End}
use Rattle.anomaly.specs.Table.{number_of_end, pc_of_end, steps_of_end}
use Rattle.vm.specs.declared.State.{State}
use Rattle.vm.specs.Told.{answer_of}
use Rattle.answers.specs.Words.{packed}
use Rattle.answers.specs.Answered.{number_of, answered, kept}

pub end-number : (end : End) → number_of_end end ≡ number_of (answer_of end)
unfolding answer_of
end-number (End.Halt pc steps) = refl
end-number (End.Budget pc steps) = refl
end-number (End.Stopped why pc steps) = refl

pub end-answers : (end : End) (old : List ℕ) → pc_of_end end ∷ steps_of_end end ∷ [] ≡ answered (answer_of end) old
unfolding answer_of
end-answers (End.Halt pc steps) old = refl
end-answers (End.Budget pc steps) old = refl
end-answers (End.Stopped why pc steps) old = refl

pub end_kept : (end : End) (s : State) (words : List ℕ) → over (packed s) words ≡ kept (answer_of end) s words
unfolding answer_of
end_kept (End.Halt pc steps) s words = refl
end_kept (End.Budget pc steps) s words = refl
end_kept (End.Stopped why pc steps) s words = refl
