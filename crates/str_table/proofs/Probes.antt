-- Probing, slot by slot. Assumes nothing.
use mathlib.Core.Path.{◌≡◌, refl, sym, ap, ◌∙◌}
use Prim.Native.Nat.{ℕ, suc, ◌+◌, ◌-◌, ◌≤◌, ◌<◌}
use mathlib.Core.Bool.{Bool, true, false}
use mathlib.Core.List.{List}
use native.Mathlib.Omega.{arith}
use lib.ListN.{length, get_or, length-set}
use lib.Bits.{and_le_r}
use borrow.Author.Tests.{eq-eqb, ne_eqb}
use Rattle.str_table.specs.declared.Probe.{Probe}
use Rattle.str_table.specs.declared.Probe.TheVariants.{Found, Vacant, Full}
use Rattle.str_table.specs.Table.{home, probe, lookup, found_value, never, filled, placed}
use Rattle.std.proofs.Common.{None}
use mathlib.Core.Logic.{◌⊎◌, inl, inr}

pub home_lt : (h n : ℕ) → 0 < n → home h n < n
unfolding home
home_lt h n k = omega (arith, and_le_r h (n - 1))

module _ (hit : ℕ → Bool) (t : List ℕ) where
  pub probe_vacant : (m i : ℕ) → get_or t i 0 ≡ 0 → probe hit t (suc m) i ≡ Vacant i
  probe_vacant m i e = unfold probe in rw (eq-eqb _ _ e, probe) refl

  pub probe_found : (m i : ℕ) → (get_or t i 0 ≡ 0 → ⊥) → hit (get_or t i 0) ≡ true → probe hit t (suc m) i ≡ Found (get_or t i 0)
  probe_found m i e q = unfold probe in rw (ne_eqb _ _ e, q, probe) refl

  pub probe-next : (m i : ℕ) → (get_or t i 0 ≡ 0 → ⊥) → hit (get_or t i 0) ≡ false → probe hit t (suc m) i ≡ probe hit t m (home (i + 1) (length t))
  probe-next m i e q = unfold probe in rw (ne_eqb _ _ e, q, probe) refl

  -- after k slots, at slot i
  pub record Probing (h k i : ℕ) : Type 0 where
    pub within : k ≤ length t
    pub here : i < length t
    pub same : probe hit t (length t - k) i ≡ lookup hit t h

  pub no_slots : (h : ℕ) → length t ≡ 0 → Full ≡ lookup hit t h
  unfolding lookup probe
  no_slots h e = ap (λ (m : ℕ). probe hit t m (home h (length t))) (sym e)

  pub probing_start : (h : ℕ) → (length t ≡ 0 → ⊥) → Probing h 0 (home h (length t))
  unfolding lookup
  probing_start h e = record {
    within = omega arith;
    here = home_lt h (length t) (omega arith);
    same = ap (λ (m : ℕ). probe hit t m (home h (length t))) (omega arith);
  }

  module _ (h k i : ℕ) (g : Probing h k i) where
    pub probing_end : length t ≤ k → Full ≡ lookup hit t h
    unfolding probe
    probing_end e = let z : length t - k ≡ 0 = omega arith in rw z at g.same

    left_is : k < length t → length t - k ≡ suc (length t - (k + 1))
    left_is e = omega arith

    pub stops_vacant : k < length t → get_or t i 0 ≡ 0 → Vacant i ≡ lookup hit t h
    stops_vacant e q = sym (probe_vacant (length t - (k + 1)) i q) ∙ ap (λ (m : ℕ). probe hit t m i) (sym (left_is e)) ∙ g.same

    pub stops-found : (b : Bool) → k < length t → (get_or t i 0 ≡ 0 → ⊥) → b ≡ hit (get_or t i 0) → b ≡ true → Found (get_or t i 0) ≡ lookup hit t h
    stops-found b e q p r = sym (probe_found (length t - (k + 1)) i q (sym p ∙ r)) ∙ ap (λ (m : ℕ). probe hit t m i) (sym (left_is e)) ∙ g.same

    pub probing_next : (b : Bool) → k < length t → (get_or t i 0 ≡ 0 → ⊥) → b ≡ hit (get_or t i 0) → b ≡ false
        → Probing h (k + 1) (home (i + 1) (length t))
    probing_next b e q p r =
        record {
          within = omega arith;
          here = home_lt (i + 1) (length t) (omega arith);
          same = sym (probe-next (length t - (k + 1)) i q (sym p ∙ r)) ∙ ap (λ (m : ℕ). probe hit t m i) (sym (left_is e)) ∙ g.same;
        }

-- no value was found
pub found_none : (p : Probe) → ((i : ℕ) × (p ≡ Vacant i)) ⊎ (p ≡ Full) → found_value p ≡ None
found_none p (inl e) = ap found_value e.1
found_none p (inr e) = ap found_value e

-- what placing leaves, by what probing finds
pub placed-is : (h v : ℕ) (t : List ℕ) (y : Probe) → y ≡ lookup never t h → filled v t y ≡ placed h v t
unfolding placed
placed-is h v t y e = ap (filled v t) e

pub filled_none : (v : ℕ) (t : List ℕ) (y : Probe) → ((i : ℕ) → y ≡ Vacant i → ⊥) → filled v t y ≡ t
unfolding filled
filled_none v t (Found w) h = refl
filled_none v t (Vacant i) h = absurd (h i refl)
filled_none v t Full h = refl

pub length-filled : (v : ℕ) (t : List ℕ) (y : Probe) → length (filled v t y) ≡ length t
unfolding filled
length-filled v t (Found w) = refl
length-filled v t (Vacant i) = length-set t i v
length-filled v t Full = refl

pub length-placed : (h v : ℕ) (t : List ℕ) → length (placed h v t) ≡ length t
unfolding placed
length-placed h v t = length-filled v t (lookup never t h)
