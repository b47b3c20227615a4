-- Passing over the lists of an image: what is left from here on is as good as the whole. Assumes nothing.
use mathlib.Core.Path.{◌≡◌, refl, sym, ap, ◌∙◌}
use Prim.Native.Nat.{ℕ, ◌+◌, ◌-◌, ◌%◌, ◌≤◌, ◌<◌}
use mathlib.Core.Bool.{Bool, true, false, ◌&&◌}
use mathlib.Core.Option.{Option, none, some}
use mathlib.Core.List.{List, [], ◌∷◌}
use native.Mathlib.Omega.{arith}
use native.Mathlib.Numerals.{add-one}
use lib.ListN.{length, get_or, drop, drop_of_length-le}
use lib.Seq.{drop-cons}
use lib.Dec.{eqb, ltb, leb}
use Rattle.std.specs.List.{list_all}
use borrow.Author.Tests.{le-leb, lt-leb, eqb-true}
use Rattle.std.specs.Prelude.{Ok, Err}
use Rattle.anomaly.specs.declared.Refusal.{Refusal}
use Rattle.anomaly.specs.Table.{number_of_refusal}
use Rattle.op.specs.declared.Counts.{Counts}
use Rattle.op.specs.Reach.{check_of}
use Rattle.memory.proofs.Tests.{both}
use Rattle.program.proofs.Tests.{failing-cons}
use Rattle.program.specs.Image.{Image, test, counts, rising, tables_ok, image_ok, ends_in_halt, below, word_test, word_tests, image_tests, failing}

-- a pass that has come to i
module _ (A : Type 0) (f : List ℕ → A) (xs : List ℕ) (i : ℕ) (whole : A) (g : f (drop i xs) ≡ whole) where
  here : i < length xs → f (get_or xs i 0 ∷ drop (i + 1) xs) ≡ whole
  here h = ap f (sym (drop-cons xs i 0 h ∙ ap (λ (k : ℕ). get_or xs i 0 ∷ drop k xs) (sym (add-one i)))) ∙ g

  past : length xs ≤ i → f [] ≡ whole
  past h = ap f (sym (drop_of_length-le xs h)) ∙ g

pub below_all : (n : ℕ) (xs : List ℕ) → list_all (λ x. ltb x n) xs ≡ below n xs
unfolding below
below_all n [] = refl
below_all n (x ∷ xs) = ap (λ (b : Bool). ltb x n && b) (below_all n xs)

module _ (start : ℕ) (ends : List ℕ) (to from i : ℕ) (g : rising from (drop i ends) to ≡ rising start ends to) where
  abbrev onwards : List ℕ → Bool
  onwards es = rising from es to

  pub rising_fails : i < length ends → get_or ends i 0 < from → false ≡ rising start ends to
  unfolding rising
  rising_fails h k = rw (lt-leb _ _ k) at (here Bool onwards ends i (rising start ends to) g h)

  pub rising-on : i < length ends → from ≤ get_or ends i 0 → rising (get_or ends i 0) (drop (i + 1) ends) to ≡ rising start ends to
  unfolding rising
  rising-on h k = rw (le-leb _ _ k) at (here Bool onwards ends i (rising start ends to) g h)

  pub rising-end : length ends ≤ i → eqb from to ≡ rising start ends to
  unfolding rising
  rising-end h = past Bool onwards ends i (rising start ends to) g h

module _ (n : Counts) (code : List ℕ) (i : ℕ) (g : failing (word_tests n (drop i code)) ≡ failing (word_tests n code)) where
  abbrev tested : List ℕ → Option ℕ
  tested ws = failing (word_tests n ws)

  pub word_fails : (why : Refusal) → i < length code → check_of n (get_or code i 0) ≡ Err why → some (number_of_refusal why) ≡ failing (word_tests n code)
  unfolding failing word_tests word_test
  word_fails why h e = rw e at (here (Option ℕ) tested code i (tested code) g h)

  pub word_on : i < length code → check_of n (get_or code i 0) ≡ Ok tt → failing (word_tests n (drop (i + 1) code)) ≡ failing (word_tests n code)
  unfolding failing word_tests word_test
  word_on h e = rw e at (here (Option ℕ) tested code i (tested code) g h)

  pub words-end : length code ≤ i → none ≡ failing (word_tests n code)
  unfolding failing word_tests
  words-end h = past (Option ℕ) tested code i (tested code) g h

pub no_code : (code : List ℕ) → length code ≡ 0 → true ≡ ends_in_halt code
unfolding ends_in_halt
no_code [] e = refl
no_code (w ∷ ws) e = absurd (omega arith)

pub last_word : (code : List ℕ) → (length code ≡ 0 → ⊥) → eqb (get_or code (length code - 1) 0 % 256) 59 ≡ ends_in_halt code
unfolding ends_in_halt
last_word [] e = absurd (e refl)
last_word (w ∷ ws) e = let i : length (w ∷ ws) - 1 ≡ length ws = omega arith in ap (λ (j : ℕ). eqb (get_or (w ∷ ws) j 0 % 256) 59) i

-- the tests of an image in turn
module _ (lent : Bool) (im : Image) where
  pub refused_10 : (lent && image_ok im) ≡ false → some 10 ≡ failing (image_tests lent im)
  unfolding failing image_tests
  refused_10 e = rw (e, failing) refl

  module _ (size : (lent && image_ok im) ≡ true) where
    pub refused_11 : ends_in_halt im.code ≡ false → some 11 ≡ failing (image_tests lent im)
    unfolding failing image_tests
    refused_11 e = rw (size, e, failing) refl

    module _ (halts : ends_in_halt im.code ≡ true) where
      pub refused_16 : below (length im.code) im.switches.entries ≡ false → some 16 ≡ failing (image_tests lent im)
      unfolding failing image_tests
      refused_16 e = rw (size, halts, e, failing) refl

      pub word_by_word : below (length im.code) im.switches.entries ≡ true
          → failing (word_tests (counts im) im.code) ≡ failing (image_tests lent im)
      unfolding failing image_tests
      word_by_word e = rw (size, halts, e, failing) refl

-- the tables of an image that passes its tests
pub passed_tables : (im : Image) → failing (image_tests true im) ≡ none
    → (tables_ok im.switches ≡ true) × (tables_ok im.lookups ≡ true) × (length im.defaults ≡ length im.lookups.firsts)
unfolding image_tests image_ok
passed_tables im p =
    let size = (failing-cons (test (image_ok im) 10) _ p).0 in
    let sections = (both (leb (length im.code) 65536) _ size).1 in
    let tables = (both (leb (length im.globals) 4096) _ sections).1 in
    let switches = both (tables_ok im.switches) _ tables in
    let lookups = both (tables_ok im.lookups) _ switches.1 in
    (switches.0, lookups.0, eqb-true _ _ lookups.1)
