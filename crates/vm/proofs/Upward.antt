-- A run of the smaller against runs of the larger. What an instruction does is never looked at (`apply` and `fetched` stay shut): only
-- that what is lent is looked at through `short` alone. Assumes nothing.
use mathlib.Core.Path.{◌≡◌, refl}
use Prim.Native.Nat.{ℕ, zero, suc, ◌+◌}
use mathlib.Core.Bool.{true, false}
use mathlib.Core.Logic.{◌⊎◌, inl, inr}
use mathlib.Core.Option.{Option, none, some}
use mathlib.Core.List.{List, [], ◌∷◌}
use native.Mathlib.Nat.{suc-add}
use Rattle.vm.specs.Core.{Sizes, Core, used, short}
use Rattle.program.specs.Image.{Image}
use Rattle.vm.specs.Run.{Step, next, halted, stop, unless, limited, step, Ran, after, ends, go}
use Rattle.vm.specs.Core.{◌⊑◌, spent}
use Rattle.vm.proofs.Fits.{short-spent, short_up}

pub go-next : (n : Sizes) (im : Image) (b : ℕ) (c d : Core) → step n im c ≡ next d → go n im (suc b) c ≡ after d (go n im b d)
unfolding go
go-next n im b c d e = rw (e, go) refl

pub go-halted : (n : Sizes) (im : Image) (b : ℕ) (c : Core) → step n im c ≡ halted → go n im (suc b) c ≡ ends 0 c 1
unfolding go
go-halted n im b c e = rw (e, go) refl

pub go-stop : (n : Sizes) (im : Image) (b : ℕ) (c d : Core) (k : ℕ) → step n im c ≡ stop k d → go n im (suc b) c ≡ ends k d 0
unfolding go
go-stop n im b c d k e = rw (e, go) refl

-- the last core of a trail that begins behind c
unfoldable pub last_of : Core → List Core → Core
last_of c [] = c
last_of c (d ∷ ds) = last_of d ds

-- a run from c that is cut off where r ended: what a stopped instruction left is not there
unfoldable pub cut_off : Core → Ran → Ran
cut_off c r = record { ending = 5; core = last_of c r.trail; steps = r.steps; trail = r.trail }

Stops : Step → Type 0
Stops x = (k : ℕ) × (d : Core) × (x ≡ stop k d) × (spent k ≡ true)

module _ (S L : Sizes) (le : S ⊑ L) where
  unless_up : (c d : Core) (o : Option ℕ) → short S (used d) ≡ o → (limited L c (next d) ≡ limited S c (next d)) ⊎ Stops (limited S c (next d))
  unfolding limited unless Stops
  unless_up c d none e = inl (rw (short_up S L (used d) le e, e, unless) refl)
  unless_up c d (some k) e = inr (k, c, rw (e, unless) refl, short-spent S (used d) e)

  limited_up : (c : Core) (x : Step) → (limited L c x ≡ limited S c x) ⊎ Stops (limited S c x)
  limited_up c (next d) = unless_up c d (short S (used d)) refl
  limited_up c halted = inl (unfold limited in refl)
  limited_up c (stop k d) = inl (unfold limited in refl)

  module _ (im : Image) where
    -- the two machines do the same, or the smaller runs out here
    step_up : (c : Core) → (step L im c ≡ step S im c) ⊎ Stops (step S im c)
    unfolding step
    step_up c = limited_up c _

    -- a run of the smaller with a budget b against those of the larger: with m more, and with the steps completed
    abbrev pub Upto : ℕ → ℕ → Core → Type 0
    Upto b m c =
        (spent (go S im b c).ending ≡ false → go L im (b + m) c ≡ go S im b c)
        × (spent (go S im b c).ending ≡ true → go L im (go S im b c).steps c ≡ cut_off c (go S im b c))

    up_zero : (m : ℕ) (c : Core) → Upto 0 m c
    unfolding go spent cut_off last_of
    up_zero m c = (λ h. cc, λ h. refl)

    up_suc : (b m : ℕ) (c : Core) (x : Step) → step S im c ≡ x → step L im c ≡ x → ((d : Core) → Upto b m d) → Upto (suc b) m c
    unfolding after cut_off last_of spent go
    up_suc b m c (next d) p q ih =
        rw (go-next S im b c d p) (
          λ h. rw (suc-add, go-next L im (b + m) c d q, (ih d).0 h) refl,
          λ h. rw (go-next L im (go S im b d).steps c d q, (ih d).1 h) refl,
        )
    up_suc b m c halted p q ih = rw (go-halted S im b c p) (λ h. rw (suc-add, go-halted L im (b + m) c q) refl, λ h. cc)
    up_suc b m c (stop k d) p q ih = rw (go-stop S im b c d k p) (λ h. rw (suc-add, go-stop L im (b + m) c d k q) refl, λ h. refl)

    up_stop : (b m : ℕ) (c : Core) → Stops (step S im c) → Upto (suc b) m c
    unfolding Stops cut_off last_of go
    up_stop b m c (k, d, p, z) = rw (go-stop S im b c d k p) (λ h. cc, λ h. refl)

    up_case : (b m : ℕ) (c : Core) → ((d : Core) → Upto b m d) → (step L im c ≡ step S im c) ⊎ Stops (step S im c) → Upto (suc b) m c
    up_case b m c ih (inl q) = up_suc b m c (step S im c) refl q ih
    up_case b m c ih (inr t) = up_stop b m c t

    pub up : (b m : ℕ) (c : Core) → Upto b m c
    up zero m c = up_zero m c
    up (suc b) m c = up_case b m c (λ d. up b m d) (step_up c)
