-- Demand 3: 'A smaller and a larger terminal, given the same list of calls, agree on everything until the smaller runs out; and cut at
-- the same instruction the larger holds the same.' Over the definition of the machine, in two forms. Definitions only.
use Rattle.std.specs.Prelude.{◌≡◌, ℕ, ◌+◌, true, false, List, [], ◌∷◌}
use Rattle.vm.specs.Core.{◌⊑◌, set_pc}
use Rattle.program.specs.Image.{Image}
use Rattle.vm.specs.Machine.{Lent, Machine, sizes, keep_pc, view, Call, run, setting, host, Answer, ended, value, done, refused, ran_out, perform}
use Rattle.vm.specs.Machine.{answers_to, begun, start}

-- a call made on both machines, with the same arguments; 'each run is lent an image, .. the same on both machines'. `more` is what the
-- larger's budget has on top
pub record Pair : Type 0 where
  pub call : Call
  pub more : ℕ

unfoldable pub raised : Call → ℕ → Call
raised (run im b) n = run im (b + n)
raised (setting k) n = setting k
raised (host k) n = host k

-- what is compared: registers, stored pc, depth, the numbers of the heap and of the table, count of names; and what these say is in use: frames,
-- 'pushed pages .. in places, bytes and last length', active slots
unfoldable pub Same : Machine → Machine → Type 0
Same s l = (s.state ≡ l.state) × (view s ≡ view l)

-- 'n is the steps in the smaller's answer; the larger answers 5, n, and as next pc the place of the instruction the smaller stopped at or
-- would do next; stored pcs aren't compared there'. s is the smaller after that run, l the larger before it, t the larger after it
pub record CutTo (s t : Machine) (p : ℕ) : Type 0 where
  pub state : t.state ≡ keep_pc p s.state
  pub held : view t ≡ set_pc p (view s)

unfoldable pub CutAt : Image → Machine → Machine → Answer → Type 0
CutAt im s l (ended e p n) = ((perform (run im n) l).answer ≡ ended 5 p n) × CutTo s (perform (run im n) l).machine p
CutAt im s l (value v) = ⊥
CutAt im s l done = ⊥
CutAt im s l (refused e) = ⊥

unfoldable pub Cut : Call → Machine → Machine → Answer → Type 0
Cut (run im b) s l a = CutAt im s l a
Cut (setting k) s l a = Unit {0}
Cut (host k) s l a = Unit {0}

-- ---- step by step: the same before the first call and after each call before the first in which the smaller runs out, with the same
-- answers; and where that first one is a run, the larger can be cut at the same instruction
unfoldable pub Agree : Machine → Machine → List Pair → Type 0
Agree s l [] = Same s l
Agree s l (p ∷ ps) =
    Same s l
    × (ran_out (perform p.call s).answer ≡ false
    → ((perform (raised p.call p.more) l).answer ≡ (perform p.call s).answer)
    × Agree (perform p.call s).machine (perform (raised p.call p.more) l).machine ps)
    × (ran_out (perform p.call s).answer ≡ true → Cut p.call (perform p.call s).machine l (perform p.call s).answer)

-- 'The list begins at what both starts returned and left', whatever the buffers held
unfoldable pub Demand3 : Type 0
Demand3 =
    (im : Image) (base : ℕ) (small large : Lent) (s l : Machine)
    → start im base small ≡ begun s → start im base large ≡ begun l → sizes small ⊑ sizes large
    → (calls : List Pair) → Agree s l calls

-- ---- as the paper puts it: 'one claim about the whole list'

unfoldable pub smaller : List Pair → List Call
smaller [] = []
smaller (p ∷ ps) = p.call ∷ smaller ps

unfoldable pub larger : List Pair → List Call
larger [] = []
larger (p ∷ ps) = raised p.call p.more ∷ larger ps

unfoldable pub NoneOut : List Answer → Type 0
NoneOut [] = Unit {0}
NoneOut (a ∷ as') = (ran_out a ≡ false) × NoneOut as'

-- after a list in which the smaller did not run out: all answers, all that is compared, and the cut of a run after it in which it does
pub record Level (s l : Machine) (ps : List Pair) : Type 0 where
  pub answers : (answers_to (larger ps) l).answers ≡ (answers_to (smaller ps) s).answers
  pub held : Same (answers_to (smaller ps) s).machine (answers_to (larger ps) l).machine
  pub cut : (im : Image) (b : ℕ)
      → ran_out (perform (run im b) (answers_to (smaller ps) s).machine).answer ≡ true
      → CutAt im (perform (run im b) (answers_to (smaller ps) s).machine).machine (answers_to (larger ps) l).machine
      (perform (run im b) (answers_to (smaller ps) s).machine).answer

unfoldable pub Demand3Whole : Type 0
Demand3Whole =
    (im : Image) (base : ℕ) (small large : Lent) (s l : Machine)
    → start im base small ≡ begun s → start im base large ≡ begun l → sizes small ⊑ sizes large
    → (calls : List Pair) → NoneOut (answers_to (smaller calls) s).answers → Level s l calls
