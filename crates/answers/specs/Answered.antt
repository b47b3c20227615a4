-- What a call of the library returns and writes, by what the machine answers. Definitions only.
use Rattle.std.specs.Prelude.{ℕ, List, [], ◌∷◌}
use Rattle.memory.specs.Lists.{over}
use Rattle.vm.specs.Machine.{Answer, ended, value, done, refused}
use Rattle.vm.specs.declared.State.{State}
use Rattle.answers.specs.Words.{packed}

-- the paper's number: 0 for what is done
abbrev pub number_of : Answer → ℕ
number_of (ended e pc steps) = e
number_of (value v) = 0
number_of done = 0
number_of (refused e) = e

-- pc and steps of a run, the value of what was given; a refused call answers its number alone
abbrev pub answered : Answer → List ℕ → List ℕ
answered (ended e pc steps) old = pc ∷ steps ∷ []
answered (value v) old = v ∷ []
answered done old = old
answered (refused e) old = old

-- the words of the state: a refused call leaves them as they were
abbrev pub kept : Answer → State → List ℕ → List ℕ
kept (ended e pc steps) s words = over (packed s) words
kept (value v) s words = over (packed s) words
kept done s words = over (packed s) words
kept (refused e) s words = words
