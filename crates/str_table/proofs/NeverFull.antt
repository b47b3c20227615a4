-- A table that is at most half full has an empty slot, and probing meets one. Assumes nothing.
use mathlib.Core.Path.{◌≡◌, refl, sym, ap, ◌∙◌}
use Prim.Native.Nat.{ℕ, zero, suc, ◌+◌, ◌-◌, ◌*◌, ◌%◌, ◌^◌, ◌≤◌, ◌<◌}
use mathlib.Core.Bool.{Bool, true, false, cond, ◌&&◌, ◌||◌}
use mathlib.Core.List.{List, [], ◌∷◌}
use native.Mathlib.Omega.{arith}
use native.Mathlib.Nat.{mod-eq_of_lt, mod_self}
use lib.ListN.{length, get_or, take}
use lib.Seq.{length-take-le}
use lib.Pow.{pow_pos}
use lib.Bits.{and_mask}
use lib.Dec.{leb, eqb}
use borrow.Author.Tests.{leb-true, leb-false, eqb-true, eqb-false, ne_eqb}
use Rattle.memory.proofs.Tests.{both}
use Rattle.str_table.specs.declared.Probe.TheVariants.{Full}
use Rattle.str_table.specs.Table.{home, probe, lookup}
use Rattle.str_table.specs.Sound.{filled_in, headers_in, active_ok, slot_count, count_ok, slots_ok, sound_of}
use Rattle.str_table.specs.declared.StrTable.{StrTable}
use Rattle.str_table.proofs.Counting.{slot_power}
use Rattle.str_table.proofs.Probes.{home_lt, probe_vacant, probe_found, probe-next}

module _ (hit : ℕ → Bool) (t : List ℕ) (k : ℕ) (p : length t ≡ 2 ^ k) where
  home-is : (x : ℕ) → home x (length t) ≡ x % length t
  unfolding home
  home-is x = rw p (and_mask x k)

  next-is : (x : ℕ) → x < length t → home x (length t) ≡ x
  next-is x h = home-is x ∙ mod-eq_of_lt h

  wraps : home (length t) (length t) ≡ 0
  wraps = home-is (length t) ∙ mod_self (length t)

  not_full : (m i : ℕ) → (probe hit t m (home (i + 1) (length t)) ≡ Full → ⊥) → probe hit t (suc m) i ≡ Full → ⊥
  not_full m i f = go _ _ refl refl
    where
      go : (a b : Bool) → eqb (get_or t i 0) 0 ≡ a → hit (get_or t i 0) ≡ b → probe hit t (suc m) i ≡ Full → ⊥
      go true b x y e = let q = probe_vacant hit t m i (eqb-true (get_or t i 0) 0 x) in let z : ◌≡◌ {A = ℕ} 0 1 = cc in omega arith
      go false true x y e = let q = probe_found hit t m i (eqb-false (get_or t i 0) 0 x) y in let z : ◌≡◌ {A = ℕ} 0 1 = cc in omega arith
      go false false x y e = f (sym (probe-next hit t m i (eqb-false (get_or t i 0) 0 x) y) ∙ e)

  module _ (j : ℕ) (h : j < length t) (z : get_or t j 0 ≡ 0) where
    -- d slots on, before the end
    ahead : (d m i : ℕ) → i + d ≡ j → d < m → probe hit t m i ≡ Full → ⊥
    ahead d zero i e l = absurd (omega arith)
    ahead zero (suc m) i e l = λ q. let s : i
        ≡ j = omega arith in let y = probe_vacant hit t m i (ap (λ (x : ℕ). get_or t x 0) s ∙ z) in let n : ◌≡◌ {A = ℕ} 0 1 = cc in omega arith
    ahead (suc d) (suc m) i e l = not_full m i (ahead d m (home (i + 1) (length t)) (rw (next-is (i + 1) (omega arith)) (omega arith)) (omega arith))

    -- round the end
    round : (d m i : ℕ) → i + suc d ≡ length t → suc d + j < m → probe hit t m i ≡ Full → ⊥
    round d zero i e l = absurd (omega arith)
    round zero (suc m) i e l = not_full m i
        (ahead j m (home (i + 1) (length t)) (rw (ap (λ (x : ℕ). home x (length t)) (one_on i e) ∙ wraps) (omega arith)) (omega arith))
      where
        one_on : (i : ℕ) → i + suc zero ≡ length t → i + 1 ≡ length t
        one_on i e = omega arith
    round (suc d) (suc m) i e l = not_full m i (round d m (home (i + 1) (length t)) (rw (next-is (i + 1) (omega arith)) (omega arith)) (omega arith))

    pub meets : (c : ℕ) → lookup hit t c ≡ Full → ⊥
    unfolding lookup
    meets c = go (leb (home c (length t)) j) refl
      where
        go : (b : Bool) → leb (home c (length t)) j ≡ b → probe hit t (length t) (home c (length t)) ≡ Full → ⊥
        go true e = let l = leb-true (home c (length t)) j e in ahead (j - home c (length t)) (length t) (home c (length t)) (omega arith)
            (omega arith)
        go false e =
            let l = leb-false (home c (length t)) j e in
            let u = home_lt c (length t) (omega arith) in
            round (length t - home c (length t) - 1) (length t) (home c (length t)) (omega (arith, u)) (omega (arith, u))

pub record Empty (t : List ℕ) : Type 0 where
  pub at : ℕ
  pub in_it : at < length t
  pub is : get_or t at 0 ≡ 0

pub empty_slot : (t : List ℕ) → filled_in t < length t → Empty t
unfolding filled_in
empty_slot [] h = absurd (omega arith)
empty_slot (v ∷ t) h = go (empty_slot t) _ refl h
  where
    go : (filled_in t < length t → Empty t) → (b : Bool) → eqb v 0 ≡ b → cond b 0 1 + filled_in t < suc (length t) → Empty (v ∷ t)
    go f true e k = record { at = 0; in_it = omega arith; is = eqb-true v 0 e }
    go f false e k = let r = f (omega arith) in record { at = suc r.at; in_it = omega (arith, r.in_it); is = r.is }

never_full : (hit : ℕ → Bool) (t : List ℕ) (k len c : ℕ) → length t ≡ 2 ^ k → filled_in t ≡ len → len * 2 ≤ length t → lookup hit t c ≡ Full → ⊥
never_full hit t k len c p e h =
    let q : 0 < length t = rw p (pow_pos k) in
    let r = empty_slot t (omega arith) in
    meets hit t k p r.at r.in_it r.is c

-- probing a sound table that has slots comes to the value or to an empty slot
pub probing_ends : (hit : ℕ → Bool) (base n : ℕ) (t : StrTable) (slots : List ℕ) (c : ℕ) → sound_of base n t slots ≡ true
    → (t.active ≡ 0 → ⊥) → lookup hit (take t.active slots) c ≡ Full → ⊥
unfolding sound_of active_ok slots_ok count_ok
probing_ends hit base n t slots c e some =
    let all = both (leb t.active (length slots) && (eqb t.active 0 || slot_count t.active)) _ e in
    let active = both (leb t.active (length slots)) _ all.0 in
    let counted = both (eqb (filled_in (take t.active slots)) t.len) _ (both (headers_in base n (take t.active slots)) _ all.1).1 in
    let long : length (take t.active slots) ≡ t.active = length-take-le t.active slots (leb-true _ _ active.0) in
    let power = slot_power t.active (rw (ne_eqb t.active 0 some) at active.1) in
    never_full hit (take t.active slots) power.exponent t.len c (long ∙ power.is) (eqb-true _ _ counted.0) (leb-true _ _ counted.1)
