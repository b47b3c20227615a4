-- An instruction of a checked image goes on inside the code, reads only what is there, and stops with a listed number. Assumes nothing.
use mathlib.Core.Path.{◌≡◌, refl, sym, ap, ◌∙◌}
use Prim.Native.Nat.{ℕ, zero, suc, ◌+◌, ◌-◌, ◌%◌, ◌^◌, ◌<◌}
use mathlib.Core.Bool.{Bool, true, false, true≢false}
use mathlib.Core.Option.{Option, none, some}
use mathlib.Core.List.{List, [], ◌∷◌, ◌++◌}
use native.Mathlib.Omega.{arith}
use native.Mathlib.Nat.{not-suc-le-zero, le_of_suc-le-suc}
use lib.ListN.{length, get_or, take}
use lib.Dec.{eqb, leb}
use borrow.Author.Tests.{lt-ltb, le-leb, eqb-true, eqb-false}
use Rattle.anomaly.specs.Table.{is_anomaly}
use Rattle.std.specs.Prelude.{Ok}
use Rattle.op.specs.Decode.{decode_of}
use Rattle.op.specs.Reach.{check_of}
use Rattle.effects.specs.declared.Effect.{Effect}
use Rattle.effects.specs.declared.Effect.TheVariants as effect
use Rattle.vm.specs.Core.{Core, Sizes, used, needs, short, ◌⊑◌, set_regs, set_pc, set_frames, set_memory}
use Rattle.program.specs.Image.{Image, counts}
use Rattle.effects.specs.Effect.{word_effect}
use Rattle.effects.proofs.Inside.{EffectOk, anomaly_listed, asks_ok, halt_effect}
use Rattle.vm.specs.Run.{Step, next, halted, stop, provided, forward, returned, block_to, apply, fetched, asked, unless, limited, step}
use Rattle.vm.specs.Loaded.{Checks, Returns}
use Rattle.vm.proofs.Fits.{failing_each}
use Rattle.vm.proofs.Kept.{Kept, KeptStep, apply-kept}

-- ---- effects

pub word_ok : (im : Image) (r : List ℕ) (w : ℕ) → Checks im → check_of (counts im) w ≡ Ok tt
    → EffectOk (length im.code) (word_effect im r (decode_of w))
word_ok im r w k h = asks_ok im r k.targets w h

-- ---- a core inside the code

returns-append : (n : ℕ) (fs : List ℕ) (f : ℕ) → Returns n fs → (f + 1) % 2 ^ 64 < n → Returns n (fs ++ (f ∷ []))
returns-append n [] f h k = (k, tt)
returns-append n (x ∷ fs) f h k = (h.0, returns-append n fs f h.1 k)

returns-take : (n d : ℕ) (fs : List ℕ) → Returns n fs → Returns n (take d fs)
returns-take n zero fs h = tt
returns-take n (suc d) [] h = tt
returns-take n (suc d) (x ∷ fs) h = (h.0, returns-take n d fs h.1)

returns_at : (n d : ℕ) (fs : List ℕ) → Returns n fs → d < length fs → (get_or fs d 0 + 1) % 2 ^ 64 < n
returns_at n d [] h l = absurd (not-suc-le-zero l)
returns_at n zero (x ∷ fs) h l = h.0
returns_at n (suc d) (x ∷ fs) h l = returns_at n d fs h.1 (le_of_suc-le-suc l)

pub record Inside (n : ℕ) (c : Core) : Type 0 where
  pub here : c.pc < n
  pub returns : Returns n c.frames

abbrev pub StepOk : ℕ → Step → Type 0
StepOk n (next d) = Inside n d
StepOk n halted = Unit {0}
StepOk n (stop e d) = is_anomaly e ≡ true

module _ (n : ℕ) (c : Core) (i : Inside n c) (more : c.pc + 1 < n) where
  provided_ok : (b : Bool) (e : ℕ) (d : Core) → is_anomaly e ≡ true → Inside n d → StepOk n (provided b e c d)
  unfolding provided
  provided_ok true e d a h = h
  provided_ok false e d a h = a

  returned_ok : (d : ℕ) → length c.frames ≡ d → StepOk n (returned d c)
  unfolding returned set_pc set_frames
  returned_ok zero e = refl
  returned_ok (suc d) e = record { here = returns_at n d c.frames i.returns (omega arith); returns = returns-take n d c.frames i.returns }

  apply_ok : (e : Effect) → EffectOk n e → StepOk n (apply e c)
  unfolding apply forward set_pc set_regs set_frames set_memory block_to
  apply_ok (effect.Set dst v) o = record { here = more; returns = i.returns }
  apply_ok effect.Skip o = record { here = more; returns = i.returns }
  apply_ok (effect.Goto target) o = record { here = o; returns = i.returns }
  apply_ok (effect.Call func) o = record { here = o; returns = returns-append n c.frames c.pc i.returns (omega arith) }
  apply_ok effect.Ret o = returned_ok (length c.frames) refl
  apply_ok (effect.Load dst base offset) o = provided_ok _ 6 _ refl (record { here = more; returns = i.returns })
  apply_ok (effect.Store base offset v) o = provided_ok _ 6 _ refl (record { here = more; returns = i.returns })
  apply_ok (effect.Alloc kind dst size) o = record { here = more; returns = i.returns }
  apply_ok (effect.Stop why) o = anomaly_listed why o
  apply_ok (effect.Unlisted number) o = absurd o
  apply_ok effect.Halt o = tt

-- ---- held to what is lent: a run lacks frames or heap, and never slots

module _ (L : Sizes) (n : ℕ) (c : Core) (fit : used c ⊑ L) where
  short-listed : (d : Core) (e : ℕ) → Kept c.memory d.memory → short L (used d) ≡ some e → is_anomaly e ≡ true
  unfolding short needs used
  short-listed d e k h =
      let s = fit.slots in
      let slots : leb (length d.memory.slots) L.slots ≡ true = rw k.slots (le-leb (length c.memory.slots) L.slots s) in
      failing_each (λ x. is_anomaly x ≡ true) (needs L (used d)) e (λ _. refl, (λ z. absurd (true≢false (sym slots ∙ z)), (λ _. refl, tt))) h

  unless_ok : (d : Core) (o : Option ℕ) → short L (used d) ≡ o → Kept c.memory d.memory → Inside n d → StepOk n (unless o c d)
  unfolding unless
  unless_ok d none e k i = i
  unless_ok d (some x) e k i = short-listed d x k e

  limited_ok : (x : Step) → KeptStep c.memory x → StepOk n x → StepOk n (limited L c x)
  unfolding limited
  limited_ok (next d) k i = unless_ok d (short L (used d)) refl k i
  limited_ok halted k i = tt
  limited_ok (stop e d) k i = i

-- one step of a run on a checked image: at its last word a Halt, before that any instruction
module _ (L : Sizes) (im : Image) (c : Core) (k : Checks im) (fit : used c ⊑ L) (i : Inside (length im.code) c) where
  abbrev n : ℕ
  n = length im.code

  abbrev here : ℕ
  here = get_or im.code c.pc 0

  fetches : asked im c ≡ word_effect im c.regs (decode_of here)
  unfolding asked fetched
  fetches = rw (lt-ltb c.pc n i.here) refl

  at_last : c.pc + 1 ≡ n → StepOk n (apply (asked im c) c)
  unfolding apply
  at_last e =
      let last : c.pc ≡ n - 1 = omega arith in
      let opcode : here % 256 ≡ 59 = ap (λ (j : ℕ). get_or im.code j 0 % 256) last ∙ k.ends in
      rw (fetches, halt_effect im c.regs here (k.words c.pc i.here) opcode) tt

  before_last : (c.pc + 1 ≡ n → ⊥) → StepOk n (apply (asked im c) c)
  before_last e =
      let h = i.here in
      let ok = word_ok im c.regs here k (k.words c.pc h) in
      apply_ok n c i (omega arith) (asked im c) (rw fetches ok)

  pub step_ok : StepOk n (step L im c)
  unfolding step
  step_ok = limited_ok L n c fit _ (apply-kept _ c) (go (eqb (c.pc + 1) n) refl)
    where
      go : (b : Bool) → eqb (c.pc + 1) n ≡ b → StepOk n (apply (asked im c) c)
      go true e = at_last (eqb-true _ _ e)
      go false e = before_last (eqb-false _ _ e)
