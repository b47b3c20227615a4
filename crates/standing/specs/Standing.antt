-- Demand 1 on a machine that is handed back as it was left: a start, then any list of calls, refused ones included, where 'each call gets
-- the state last returned and the same buffers, whole and as last left, and nobody else writes them'. No call after them is refused for that
-- state or for the sizes of those buffers, and a run comes to a listed end within its budget. Over the definition of the machine.
-- Definitions only.
use Rattle.std.specs.Prelude.{◌≡◌, ℕ, max, ◌≤◌, true, List, [], ◌∷◌, length}
use Rattle.std.proofs.Math.Option.{none}
use Rattle.program.specs.Image.{Image, image_ok, image_tests, failing}
use Rattle.vm.specs.Machine.{Lent, Machine, reset, put_pc, put_reg, Call, run, setting, host, refused, perform, answers_to, begun, start}
use Rattle.vm.specs.Listed.{RunEnds}

-- how many words the code of a run needs: as many as that of each run since the start or the last reset. 'Each run is lent an image, not
-- always that of the start', and frames that a run left in use return into its code
unfoldable pub words_after : ℕ → Call → ℕ
words_after n (run im b) = max n (length im.code)
words_after n (setting reset) = 0
words_after n (setting (put_pc p)) = n
words_after n (setting (put_reg r v)) = n
words_after n (host k) = n

unfoldable pub words_for : ℕ → List Call → ℕ
words_for n [] = n
words_for n (k ∷ ks) = words_for (words_after n k) ks

-- a call with code of at least so many words, if it is a run
abbrev pub AsLong : ℕ → Call → Type 0
AsLong n (run im b) = n ≤ length im.code
AsLong n (setting k) = Unit {0}
AsLong n (host k) = Unit {0}

-- a call with an image of legal size, if it is a run: 10 speaks of that too
abbrev pub Sized : Call → Type 0
Sized (run im b) = image_ok im ≡ true
Sized (setting k) = Unit {0}
Sized (host k) = Unit {0}

-- an image that passes its own tests, 10, 11, 16 and 12 to 15
abbrev pub Passes : Image → Type 0
Passes im = failing (image_tests true im) ≡ none

-- the machine m, on which runs need n words of code
pub record Stands (n : ℕ) (m : Machine) : Type 0 where
  -- 9, 'lent state can't belong to the buffers'
  pub belongs : (k : Call) → AsLong n k → (perform k m).answer ≡ refused 9 → ⊥
  -- 10, 'a size or B outside the limits'
  pub sized : (k : Call) → Sized k → (perform k m).answer ≡ refused 10 → ⊥
  -- 'a loaded one comes to a listed end within its budget'
  pub ends : (im : Image) (b : ℕ) → n ≤ length im.code → Passes im → RunEnds b (perform (run im b) m).answer

unfoldable pub Standing : Type 0
Standing =
    (im : Image) (base : ℕ) (l : Lent) (m : Machine) → start im base l ≡ begun m
    → (calls : List Call) → Stands (words_for 0 calls) (answers_to calls m).machine
