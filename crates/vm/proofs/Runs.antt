-- A run on a core: it keeps the names, stays within what is lent, and goes the same way on a larger machine. Assumes nothing.
use mathlib.Core.Path.{◌≡◌, refl, sym}
use Prim.Native.Nat.{ℕ, zero, suc, ◌+◌}
use mathlib.Core.Bool.{Bool, true, false, true≢false, ◌||◌}
use mathlib.Core.Option.{none}
use lib.ListN.{length-set}
use lib.Dec.{ltb, eqb}
use Rattle.vm.specs.Core.{Sizes, Core, used, short, spent, ◌⊑◌, set_pc, set_frames}
use Rattle.program.specs.Image.{Image}
use Rattle.vm.specs.Run.{go, root, entered, stored}
use Rattle.vm.specs.Machine.{Answer, ended, value, done, refused, ran_out, Acted, ran, idle, runs}
use Rattle.vm.proofs.Upward.{cut_off, up}
use Rattle.vm.proofs.Every.{go_left}
use Rattle.vm.proofs.Kept.{kept, Good, go_good}

stored_back : (e p : ℕ) (c : Core) → set_pc c.pc (stored e p c) ≡ c
unfolding stored set_pc
stored_back e p c = elim (eqb e 0 || eqb e 5) as (λ t. set_pc c.pc (elim t [ true ↦ c | false ↦ set_pc p c ]) ≡ c) [ true ↦ refl | false ↦ refl ]

stored_good : (n : Sizes) (c d : Core) (e p : ℕ) → Good n c d → Good n c (stored e p d)
unfolding stored set_pc used
stored_good n c d e p g = elim (eqb e 0 || eqb e 5) as (λ t. Good n c (elim t [ true ↦ d | false ↦ set_pc p d ])) [ true ↦ g | false ↦ g ]

pub entered-used : (k : ℕ) (c : Core) → used (entered k c) ≡ used c
unfolding entered set_frames used
entered-used k c = rw (length-set c.frames 0 (root k)) refl

pub runs-go : (n : Sizes) (im : Image) (b k : ℕ) (c : Core) → ltb c.pc (suc k) ≡ true
    → runs n im b (suc k) c ≡ ran (suc k) c (go n im b (entered (suc k) c))
unfolding runs
runs-go n im b k c f = rw (f, runs) refl

pub runs_past : (n : Sizes) (im : Image) (b k : ℕ) (c : Core) → ltb c.pc (suc k) ≡ false
    → runs n im b (suc k) c ≡ ran (suc k) c (idle (entered (suc k) c))
unfolding runs
runs_past n im b k c f = rw (f, runs) refl

entered_good : (n : Sizes) (k : ℕ) (c d : Core) → Good n (entered k c) d → Good n c d
unfolding entered set_frames
entered_good n k c d g = g

-- a run keeps the names, and stays within what is lent
runs_case : (n : Sizes) (im : Image) (b k : ℕ) (c : Core) (t : Bool) → ltb c.pc (suc k) ≡ t → short n (used c) ≡ none
    → Good n c (runs n im b (suc k) c).core
unfolding ran idle
runs_case n im b k c false q h =
    let d = entered (suc k) c in
    let f : short n (used d) ≡ none = rw entered-used h in
    rw (runs_past n im b k c q) (stored_good n c d 0 c.pc (entered_good n (suc k) c d (kept d.memory, f)))
runs_case n im b k c true q h =
    let d = entered (suc k) c in
    let f : short n (used d) ≡ none = rw entered-used h in
    rw (runs-go n im b k c q) (stored_good n c _ _ c.pc (entered_good n (suc k) c _ (go_good n im b d f)))

pub runs_good : (n : Sizes) (im : Image) (b k : ℕ) (c : Core) → short n (used c) ≡ none → Good n c (runs n im b k c).core
unfolding runs
runs_good n im b zero c h = (kept c.memory, h)
runs_good n im b (suc k) c h = runs_case n im b k c (ltb c.pc (suc k)) refl h

-- what the larger does with a run that did not run out on the smaller, and with one that did
module _ (S L : Sizes) (le : S ⊑ L) where
  -- an end with the pc p has left d, and the larger stands at x: the same but for the stored pc
  pub record CutCore (p : ℕ) (x d : Core) : Type 0 where
    pub same : x ≡ set_pc p d

  -- the smaller's run answered a and left d; the larger, given the steps completed, answers 5 there
  abbrev pub CutOn : Image → ℕ → Core → Core → Answer → Type 0
  CutOn im k c d (ended e p n) = ((runs L im n k c).answer ≡ ended 5 p n) × CutCore p (runs L im n k c).core d
  CutOn im k c d (value v) = ⊥
  CutOn im k c d done = ⊥
  CutOn im k c d (refused e) = ⊥

  abbrev pub Upon : Image → ℕ → Core → Acted → Acted → Type 0
  Upon im k c a b = (ran_out a.answer ≡ false → b ≡ a) × (ran_out a.answer ≡ true → CutOn im k c a.core a.answer)

  upon_case : (im : Image) (b m k : ℕ) (c : Core) (t : Bool) → ltb c.pc (suc k) ≡ t
      → Upon im (suc k) c (runs S im b (suc k) c) (runs L im (b + m) (suc k) c)
  unfolding ran_out spent ran idle cut_off stored
  upon_case im b m k c false q = rw (runs_past S im b k c q, runs_past L im (b + m) k c q) (λ h. refl, λ h. absurd (true≢false (sym h)))
  upon_case im b m k c true q =
      let d = entered (suc k) c in
      let r = up S L le im b m d in
      rw (runs-go S im b k c q, runs-go L im (b + m) k c q) (
        λ h. rw (r.0 h) refl,
        λ h. rw (runs-go L im (go S im b d).steps k c q, r.1 h, ← (go_left S im b d))
            (refl, record { same = sym (stored_back (go S im b d).ending c.pc (go S im b d).core) }),
      )

  pub runs_up : (im : Image) (b m k : ℕ) (c : Core) → Upon im k c (runs S im b k c) (runs L im (b + m) k c)
  unfolding runs ran_out spent
  runs_up im b m zero c = (λ h. refl, λ h. absurd (true≢false (sym h)))
  runs_up im b m (suc k) c = upon_case im b m k c (ltb c.pc (suc k)) refl
