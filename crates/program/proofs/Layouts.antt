-- Words cut into sections: what ends that go up say, and how long the sections are. Assumes nothing.
use mathlib.Core.Path.{◌≡◌, refl, sym, ◌∙◌}
use Prim.Native.Nat.{ℕ, zero, suc, ◌+◌, ◌-◌, ◌≤◌, ◌<◌}
use mathlib.Core.Bool.{Bool, true, false, ◌&&◌, and-false, and_comm, true≢false}
use mathlib.Core.Option.{none, some}
use mathlib.Core.List.{List, [], ◌∷◌}
use native.Mathlib.Omega.{arith}
use native.Mathlib.Nat.{not-suc-le-zero}
use lib.ListN.{length, get_or, take, length-take, length-drop}
use lib.Seq.{get_or-take, length-take-le}
use lib.Dec.{leb, eqb}
use borrow.Author.Tests.{leb-true, eqb-true}
use Rattle.std.specs.Prelude as std
use Rattle.std.specs.Option.{MatchOption}
use Rattle.memory.proofs.Tests.{both}
use Rattle.program.specs.Image.{Image, rising, tables_fit, tables_ok, image_ok, sizes_fit, image_tests, failing}
use Rattle.program.specs.Words.{between, fits, cut, image_in, Ordered}
use Rattle.program.proofs.Entries.{rising_to, rising_at, rising-on}

pub length-between : (a e : ℕ) (ws : List ℕ) → e ≤ length ws → length (between a e ws) ≡ e - a
length-between a e ws h = simp (length-take, length-drop) (omega arith)

-- ---- words that fit, and words that do not

rising_first : (from : ℕ) (es : List ℕ) (to : ℕ) → rising from es to ≡ true → 0 < length es → from ≤ get_or es 0 0
unfolding rising
rising_first from [] to h l = absurd (not-suc-le-zero l)
rising_first from (e ∷ es) to h l = leb-true from e (both (leb from e) _ h).0

rising-last : (from : ℕ) (es : List ℕ) (to k : ℕ) → rising from es to ≡ true → suc k ≡ length es → get_or es k 0 ≡ to
unfolding rising
rising-last from [] to k h l = absurd (omega arith)
rising-last from (e ∷ []) to zero h l = eqb-true e to (both (leb from e) _ h).1
rising-last from (e ∷ []) to (suc k) h l = absurd (omega arith)
rising-last from (e ∷ f ∷ es) to zero h l = absurd (omega arith)
rising-last from (e ∷ f ∷ es) to (suc k) h l = rising-last e (f ∷ es) to k (both (leb from e) _ h).1 (omega arith)

module _ (ws : List ℕ) where
  module _ (f : fits ws ≡ true) where
    up : rising 9 (take 9 ws) (length ws) ≡ true
    unfolding fits
    up = f

    nine : length (take 9 ws) ≡ 9
    nine = length-take-le 9 ws (rising_to 9 (take 9 ws) (length ws) up)

    on : (k : ℕ) → suc k < 9 → get_or ws k 0 ≤ get_or ws (suc k) 0
    on k h =
        let a = get_or-take 9 ws k 0 (omega arith) in
        let b = get_or-take 9 ws (suc k) 0 h in
        let c = rising-on 9 (take 9 ws) (length ws) k up (omega (arith, nine)) in
        omega (arith, a, b, c)

    pub ordered : Ordered ws
    ordered =
        let a = get_or-take 9 ws 0 0 (omega arith) in
        let b = rising_first 9 (take 9 ws) (length ws) up (omega (arith, nine)) in
        let c = get_or-take 9 ws 8 0 (omega arith) in
        let d = rising_at 9 (take 9 ws) (length ws) 8 up (omega (arith, nine)) in (
          omega (arith, a, b),
          on 0 (omega arith),
          on 1 (omega arith),
          on 2 (omega arith),
          on 3 (omega arith),
          on 4 (omega arith),
          on 5 (omega arith),
          on 6 (omega arith),
          on 7 (omega arith),
          omega (arith, c, d),
        )

    all_words : get_or ws 8 0 ≡ length ws
    all_words =
        let c = get_or-take 9 ws 8 0 (omega arith) in
        let d = rising-last 9 (take 9 ws) (length ws) 8 up (omega (arith, nine)) in
        omega (arith, c, d)

    pub image-is : image_in ws ≡ cut ws
    unfolding image_in
    image-is = rw f refl

  pub short : length ws < 9 → false ≡ fits ws
  short l = by (fits ws) refl
    where
      by : (b : Bool) → fits ws ≡ b → false ≡ b
      by true f = let k = rising_to 9 (take 9 ws) (length ws) (up f) in absurd (omega arith)
      by false f = refl

  pub unfit_sized : fits ws ≡ false → image_ok (image_in ws) ≡ false
  unfolding image_in image_ok tables_ok rising
  unfit_sized f = rw f refl

  pub unfit_10 : fits ws ≡ false → (lent : Bool) → failing (image_tests lent (image_in ws)) ≡ some 10
  unfolding image_in image_tests failing image_ok tables_ok rising
  unfit_10 f true = rw (f, failing) refl
  unfit_10 f false = refl

  pub refused-unfit : fits ws ≡ false → (lent : Bool) → some 10 ≡ failing (image_tests lent (image_in ws))
  refused-unfit f lent = sym (unfit_10 f lent)

  -- an image that passes its tests fits
  pub passed_fits : (lent : Bool) → failing (image_tests lent (image_in ws)) ≡ none → fits ws ≡ true
  passed_fits lent p = by (fits ws) refl
    where
      by : (b : Bool) → fits ws ≡ b → b ≡ true
      by true f = refl
      by false f = let z = sym (unfit_10 f lent) ∙ p in cc

-- ---- the sizes of sections, as they are computed: all of them, before the ends of tables are read

-- first the sizes, then what is left
regroup : (a u b v d : Bool) → ((a && u) && ((b && v) && d)) ≡ ((a && (b && d)) && (u && v))
regroup false u b v d = refl
regroup true false b v d = sym (and-false (b && d))
regroup true true false v d = refl
regroup true true true v d = and_comm v d

-- an end that is not far from the one before it
up_to : {a b n : ℕ} → a ≤ b → b - a ≤ n → b ≤ a + n
up_to h k = omega arith

outside : (a b c d : Bool) → (a && (b && (c && d))) ≡ ((a && (b && c)) && d)
outside false b c d = refl
outside true false c d = refl
outside true true c d = refl

-- ---- the sizes of sections

module _ (im : Image) where
  abbrev switches_fit : Bool
  switches_fit = tables_fit (length im.switches.firsts) (length im.switches.ends) (length im.switches.entries)

  abbrev lookups_fit : Bool
  lookups_fit = tables_fit (length im.lookups.firsts) (length im.lookups.ends) (length im.lookups.entries)

  abbrev sized : Bool
  sized =
      leb (length im.code) 65536
      && (leb (length im.globals) 4096 && (switches_fit && (lookups_fit && eqb (length im.defaults) (length im.lookups.firsts))))

  abbrev risen : Bool
  risen = rising 0 im.switches.ends (length im.switches.entries) && rising 0 im.lookups.ends (length im.lookups.entries)

  pub sizes_then_ends : image_ok im ≡ (sized && risen)
  unfolding image_ok tables_ok
  sizes_then_ends =
      rw (regroup switches_fit _ lookups_fit _ _)
      (outside (leb (length im.code) 65536) (leb (length im.globals) 4096)
      (switches_fit && (lookups_fit && eqb (length im.defaults) (length im.lookups.firsts))) risen)

-- ---- the tests of 10, one by one

grouped : (a b c : Bool) → (a && b) ≡ true → (a && (b && c)) ≡ c
grouped true true c e = refl
grouped true false c e = absurd (true≢false (sym e))
grouped false b c e = absurd (true≢false (sym e))

module _ (im : Image) where
  abbrev few : Bool
  few = leb (length im.code) 65536 && leb (length im.globals) 4096

  abbrev defaulted : Bool
  defaulted = eqb (length im.defaults) (length im.lookups.firsts)

  pub too_long_section : sizes_fit im ≡ false → image_ok im ≡ false
  too_long_section e = sizes_then_ends im ∙ rw e refl

  module _ (sizes : sizes_fit im ≡ true) where
    e : few ≡ true
    e =
        let code = both (leb (length im.code) 65536) _ sizes in
        rw (code.0, (both (leb (length im.globals) 4096) _ code.1).0) refl

    tables-decide : image_ok im ≡ (tables_ok im.switches && (tables_ok im.lookups && defaulted))
    unfolding image_ok
    tables-decide = grouped (leb (length im.code) 65536) (leb (length im.globals) 4096) _ e

    pub no_switches : tables_ok im.switches ≡ false → image_ok im ≡ false
    no_switches s = tables-decide ∙ rw s refl

    module _ (s : tables_ok im.switches ≡ true) where
      pub no_lookups : tables_ok im.lookups ≡ false → image_ok im ≡ false
      no_lookups l = tables-decide ∙ rw (s, l) refl

      module _ (l : tables_ok im.lookups ≡ true) where
        defaults-decide : (b : Bool) → defaulted ≡ b → image_ok im ≡ b
        defaults-decide b d = tables-decide ∙ rw (s, l, d) refl

        pub image_made : (r : std.Option Image) → MatchOption r (defaulted ≡ false) (λ x. (defaulted ≡ true) × (x ≡ im))
            → MatchOption r (image_ok im ≡ false) (λ x. (image_ok x ≡ true) × (x ≡ im))
        image_made std.None d = defaults-decide false d
        image_made (std.Some x) d = (rw d.1 (defaults-decide true d.0), d.1)

module _ (ws : List ℕ) (o : Ordered ws) where
  -- the sizes of the sections, by their ends
  abbrev lengths_fit : Bool
  lengths_fit =
      leb (get_or ws 0 0 - 9) 65536
      && (leb (get_or ws 1 0 - get_or ws 0 0) 4096
      && (tables_fit (get_or ws 2 0 - get_or ws 1 0) (get_or ws 3 0 - get_or ws 2 0) (get_or ws 4 0 - get_or ws 3 0)
      && (tables_fit (get_or ws 5 0 - get_or ws 4 0) (get_or ws 6 0 - get_or ws 5 0) (get_or ws 7 0 - get_or ws 6 0)
      && eqb (get_or ws 8 0 - get_or ws 7 0) (get_or ws 5 0 - get_or ws 4 0))))

  lengths_are : sized (cut ws) ≡ lengths_fit
  lengths_are = rw (
    length-between 9 (get_or ws 0 0) ws (omega arith),
    length-between (get_or ws 0 0) (get_or ws 1 0) ws (omega arith),
    length-between (get_or ws 1 0) (get_or ws 2 0) ws (omega arith),
    length-between (get_or ws 2 0) (get_or ws 3 0) ws (omega arith),
    length-between (get_or ws 3 0) (get_or ws 4 0) ws (omega arith),
    length-between (get_or ws 4 0) (get_or ws 5 0) ws (omega arith),
    length-between (get_or ws 5 0) (get_or ws 6 0) ws (omega arith),
    length-between (get_or ws 6 0) (get_or ws 7 0) ws (omega arith),
    length-between (get_or ws 7 0) (get_or ws 8 0) ws (omega arith),
  ) refl

  -- no section too long: not too many words
  longest : sized (cut ws) ≡ true → get_or ws 8 0 ≤ 79113
  longest sizes =
      let s = sym lengths_are ∙ sizes in
      let code = both (leb (get_or ws 0 0 - 9) 65536) _ s in
      let globals = both (leb (get_or ws 1 0 - get_or ws 0 0) 4096) _ code.1 in
      let switches = both (tables_fit (get_or ws 2 0 - get_or ws 1 0) (get_or ws 3 0 - get_or ws 2 0) (get_or ws 4 0 - get_or ws 3 0)) _ globals.1 in
      let lookups = both (tables_fit (get_or ws 5 0 - get_or ws 4 0) (get_or ws 6 0 - get_or ws 5 0) (get_or ws 7 0 - get_or ws 6 0)) _ switches.1 in
      let firsts = both (leb (get_or ws 2 0 - get_or ws 1 0) 256) _ switches.0 in
      let ends = both (eqb (get_or ws 3 0 - get_or ws 2 0) _) _ firsts.1 in
      let firsts' = both (leb (get_or ws 5 0 - get_or ws 4 0) 256) _ lookups.0 in
      let ends' = both (eqb (get_or ws 6 0 - get_or ws 5 0) _) _ firsts'.1 in
      let few = leb-true (get_or ws 2 0 - get_or ws 1 0) 256 firsts.0 in
      let few' = leb-true (get_or ws 5 0 - get_or ws 4 0) 256 firsts'.0 in
      let w₀ = up_to o.0 (leb-true _ _ code.0) in
      let w₁ = up_to o.1 (leb-true _ _ globals.0) in
      let w₂ = up_to o.2 few in
      let w₃ = up_to {n = 256} o.3 (rw (eqb-true (get_or ws 3 0 - get_or ws 2 0) _ ends.0) few) in
      let w₄ = up_to o.4 (leb-true _ _ ends.1) in
      let w₅ = up_to o.5 few' in
      let w₆ = up_to {n = 256} o.6 (rw (eqb-true (get_or ws 6 0 - get_or ws 5 0) _ ends'.0) few') in
      let w₇ = up_to o.7 (leb-true _ _ ends'.1) in
      let w₈ = up_to {n = 256} o.8 (rw (eqb-true (get_or ws 8 0 - get_or ws 7 0) _ lookups.1) few') in
      omega arith

-- ---- an image of more words than its sections may have

module _ (ws : List ℕ) (l : 79113 < length ws) where
  pub too_long : image_ok (image_in ws) ≡ false
  too_long = by (fits ws) refl
    where
      -- its sections are not all as long as they may be
      unsized : (f : fits ws ≡ true) (b : Bool) → image_ok (cut ws) ≡ b → b ≡ false
      unsized f true e =
          let s = (both (sized (cut ws)) _ (sym (sizes_then_ends (cut ws)) ∙ e)).0 in
          let k = longest ws (ordered ws f) s in
          absurd (omega (arith, all_words ws f))
      unsized f false e = refl

      by : (b : Bool) → fits ws ≡ b → image_ok (image_in ws) ≡ false
      by true f = rw (image-is ws f) (unsized f _ refl)
      by false f = unfit_sized ws f
