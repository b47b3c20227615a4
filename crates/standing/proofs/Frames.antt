-- The frames in use behind frame 0 return below the last word of the code, through every instruction of a checked image. Assumes nothing.
use mathlib.Core.Path.{◌≡◌, refl}
use Prim.Native.Nat.{ℕ, zero, suc, ◌+◌, ◌%◌, ◌^◌, ◌≤◌, ◌<◌}
use mathlib.Core.Bool.{Bool, true, false}
use mathlib.Core.Option.{none}
use mathlib.Core.List.{List, [], ◌∷◌, ◌++◌}
use native.Mathlib.Omega.{arith}
use lib.ListN.{length, take, drop}
use lib.Dec.{ltb}
use borrow.Author.Tests.{lt-ltb, ltb-true}
use Rattle.memory.proofs.Tests.{both}
use Rattle.effects.specs.declared.Effect.{Effect}
use Rattle.effects.specs.declared.Effect.TheVariants as effect
use Rattle.program.specs.Image.{Image, below}
use Rattle.effects.proofs.Inside.{below-take}
use Rattle.vm.specs.Core.{Core, Sizes, used, short, set_regs, set_pc, set_frames, set_memory}
use Rattle.vm.specs.Run.{Step, next, halted, stop, provided, forward, returned, block_to, apply, step, go}
use Rattle.vm.specs.Machine.{returns_ok}
use Rattle.vm.specs.Loaded.{Checks, Returns}
use Rattle.vm.proofs.Fits.{fits_of}
use Rattle.vm.proofs.Every.{Every, Stays, step_every, step_stays, go_every}
use Rattle.vm.proofs.Kept.{GoodStep, step_good}
use Rattle.vm.proofs.Inside.{Inside, StepOk, step_ok}

-- ---- places below a bound

below-append : (n : ℕ) (xs : List ℕ) (p : ℕ) → below n xs ≡ true → p < n → below n (xs ++ (p ∷ [])) ≡ true
unfolding below
below-append n [] p h l = rw (lt-ltb p n l) refl
below-append n (x ∷ xs) p h l = let k = both (ltb x n) _ h in rw k.0 (below-append n xs p k.1 l)

below_more : (n m : ℕ) (xs : List ℕ) → n ≤ m → below n xs ≡ true → below m xs ≡ true
unfolding below
below_more n m [] le h = refl
below_more n m (x ∷ xs) le h =
    let k = both (ltb x n) _ h in
    let l = ltb-true x n k.0 in
    rw (lt-ltb x m (omega arith)) (below_more n m xs le k.1)

-- ---- all frames but frame 0

behind-take : (n d : ℕ) (fs : List ℕ) → below n (drop 1 fs) ≡ true → below n (drop 1 (take d fs)) ≡ true
unfolding below
behind-take n zero fs h = refl
behind-take n (suc d) [] h = refl
behind-take n (suc d) (f ∷ fs) h = below-take n d fs h

behind-append : (n : ℕ) (fs : List ℕ) (p : ℕ) → below n (drop 1 fs) ≡ true → p < n → below n (drop 1 (fs ++ (p ∷ []))) ≡ true
unfolding below
behind-append n [] p h l = refl
behind-append n (f ∷ fs) p h l = below-append n fs p h l

-- frames that can belong to code can belong to longer code
pub returns-more : (last m : ℕ) (fs : List ℕ) → suc last ≤ m → returns_ok (suc last) fs ≡ true → returns_ok m fs ≡ true
unfolding returns_ok
returns-more last zero fs le h = refl
returns-more last (suc m) fs le h = below_more last m (drop 1 fs) (omega arith) h

pub one_frame : (n f : ℕ) → returns_ok n (f ∷ []) ≡ true
unfolding returns_ok below
one_frame zero f = refl
one_frame (suc last) f = refl

returns-last : (n : ℕ) (fs : List ℕ) (p : ℕ) → Returns n (fs ++ (p ∷ [])) → (p + 1) % 2 ^ 64 < n
returns-last n [] p h = h.0
returns-last n (f ∷ fs) p h = returns-last n fs p h.1

-- ---- code of suc last words

module _ (last : ℕ) (small : last < 65536) where
  abbrev pub Behind : Core → Type 0
  Behind d = returns_ok (suc last) d.frames ≡ true

  -- a frame that returns into the code, once it is known to
  abbrev Then : Core → Type 0
  Then d = Returns (suc last) d.frames → Behind d

  -- an instruction
  module _ (c : Core) (here : c.pc < suc last) (h : Behind c) where
    provided_then : (b : Bool) (e : ℕ) (d : Core) → Then d → Every Then (provided b e c d)
    unfolding provided
    provided_then true e d k = k
    provided_then false e d k = λ r. h

    returned_then : (k : ℕ) → Every Then (returned k c)
    unfolding returned set_pc set_frames returns_ok
    returned_then zero = λ r. h
    returned_then (suc d) = λ r. behind-take last d c.frames h

    apply_then : (e : Effect) → Every Then (apply e c)
    unfolding apply forward set_pc set_regs set_frames set_memory block_to returns_ok
    apply_then (effect.Set dst v) = λ r. h
    apply_then effect.Skip = λ r. h
    apply_then (effect.Goto target) = λ r. h
    apply_then (effect.Call func) = λ r. behind-append last c.frames c.pc h
        (let k : (c.pc + 1) % 2 ^ 64 < suc last = returns-last (suc last) c.frames c.pc r in omega arith)
    apply_then effect.Ret = returned_then _
    apply_then (effect.Load dst base offset) = provided_then _ 6 _ (λ r. h)
    apply_then (effect.Store base offset v) = provided_then _ 6 _ (λ r. h)
    apply_then (effect.Alloc kind dst size) = λ r. h
    apply_then (effect.Stop e) = λ r. h
    apply_then (effect.Unlisted e) = λ r. h
    apply_then effect.Halt = tt

  -- a run
  module _ (L : Sizes) (im : Image) (long : length im.code ≡ suc last) (k : Checks im) where
    abbrev Goes : Core → Type 0
    Goes d = (short L (used d) ≡ none) × Inside (suc last) d × Behind d

    joined : (c : Core) (x : Step) → Goes c → GoodStep L c.memory x → StepOk (suc last) x → Every Then x → Stays c x → Every Goes x
    joined c (next d) h g o t q = (g.1, o, t o.returns)
    joined c halted h g o t q = tt
    joined c (stop e d) h g o t q = rw q h

    each : (c : Core) → Goes c → Every Goes (step L im c)
    each c h = joined c (step L im c) h (step_good L im c h.0)
        (rw long at (step_ok L im c k (fits_of L (used c) h.0) (rw long h.1)))
        (step_every Then L im c (λ r. h.2) (apply_then c h.1.here h.2)) (step_stays L im c)

    pub go-behind : (b : ℕ) (c : Core) → Goes c → Behind (go L im b c).core
    go-behind b c h = (go_every Goes L im each b c h).2
