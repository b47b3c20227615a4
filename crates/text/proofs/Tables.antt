-- The tables of a text: as many firsts as ends and defaults, and ends that go up to the number of entries. Assumes nothing.
use Prim.Native.Nat.{ℕ, ◌+◌, ◌≤◌}
use mathlib.Core.Path.{◌≡◌, refl, sym, ◌∙◌}
use mathlib.Core.Bool.{Bool, true, false, cond}
use mathlib.Core.List.{List, [], ◌∷◌, ◌++◌}
use lib.ListN.{length, length-append}
use lib.Dec.{eqb}
use native.Mathlib.Nat.{add-zero, zero-add, add_assoc}
use native.Mathlib.Omega.{arith}
use Rattle.text.specs.Lines.{lines_in, kind_of, payload_of}
use Rattle.text.specs.Sections.{targets_in, values_in, adds, targets_with, values_with, section_of, section_in}
use Rattle.text.specs.declared.sections.Section.{Section}
use Rattle.text.specs.declared.sections.Section.TheVariants.{SwitchFirsts, SwitchEnds, SwitchEntries, LookupFirsts, LookupDefaults}
use Rattle.text.specs.declared.sections.Section.TheVariants.{LookupEnds, LookupEntries}
use Rattle.text.proofs.Naming.{one}

-- ---- sections of one number a table

module _ (a b : Section) (same : (t v k : ℕ) (p : List ℕ) → length (adds a t v k p) ≡ length (adds b t v k p)) where
  alike : (t v : ℕ) (lines : List (List ℕ)) → length (section_of a t v lines) ≡ length (section_of b t v lines)
  unfolding section_of
  alike t v [] = refl
  alike t v (l ∷ more) =
      let k = kind_of l in
      let p = payload_of l in
      let t' = targets_with t k p in
      let v' = values_with v k p in
      length-append (adds a t' v' k p) (section_of a t' v' more) ∙ rw (same t' v' k p, alike t' v' more, ← length-append)

pub switch_ends_firsts : (s : List ℕ) → length (section_in SwitchEnds s) ≡ length (section_in SwitchFirsts s)
unfolding adds
switch_ends_firsts s = alike SwitchEnds SwitchFirsts (λ t v k p. one (eqb k 3) _ ∙ sym (one (eqb k 3) _)) 0 0 (lines_in s)

pub lookup-ends-firsts : (s : List ℕ) → length (section_in LookupEnds s) ≡ length (section_in LookupFirsts s)
unfolding adds
lookup-ends-firsts s = alike LookupEnds LookupFirsts (λ t v k p. one (eqb k 4) _ ∙ sym (one (eqb k 4) _)) 0 0 (lines_in s)

pub lookup-defaults-firsts : (s : List ℕ) → length (section_in LookupDefaults s) ≡ length (section_in LookupFirsts s)
unfolding adds
lookup-defaults-firsts s = alike LookupDefaults LookupFirsts (λ t v k p. one (eqb k 4) _ ∙ sym (one (eqb k 4) _)) 0 0 (lines_in s)

-- ---- ends

-- for any meaning of 'the ends go up from one number to another' that none at all meets from a number to itself, and that one more end, from
-- where it stands on, keeps
module _ (rises : ℕ → List ℕ → ℕ → Type 0) (none_rise : (n : ℕ) → rises n [] n)
    (more_rise : (from end to : ℕ) (ends : List ℕ) → from ≤ end → rises end ends to → rises from (end ∷ ends) to) where
  one_more : (here : Bool) (n : ℕ) (entries more ends : List ℕ)
      → rises (n + length (cond here entries [])) ends (n + length (cond here entries []) + length more) →
      rises n (cond here ((n + length (cond here entries [])) ∷ []) [] ++ ends) (n + length (cond here entries [] ++ more))
  one_more true n entries more ends h = rw (length-append entries more, ← add_assoc) (more_rise n (n + length entries) _ ends (omega arith) h)
  one_more false n entries more ends h = rw add-zero at h

  -- for one kind of table: its two sections, its kind of line, what a line's entries are, and which of the two counts is theirs
  module _ (ends all : Section) (kind : ℕ) (entries : List ℕ → List ℕ) (count : ℕ → ℕ → ℕ)
      (ends-are : (t v k : ℕ) (p : List ℕ) → adds ends t v k p ≡ cond (eqb k kind) (count t v ∷ []) [])
      (all_are : (t v k : ℕ) (p : List ℕ) → adds all t v k p ≡ cond (eqb k kind) (entries p) [])
      (counts : (t v k : ℕ) (p : List ℕ) → count (targets_with t k p) (values_with v k p) ≡ count t v + length (cond (eqb k kind) (entries p) [])) where
    rise : (t v : ℕ) (lines : List (List ℕ)) → rises (count t v) (section_of ends t v lines) (count t v + length (section_of all t v lines))
    unfolding section_of
    rise t v [] = rw add-zero (none_rise (count t v))
    rise t v (l ∷ more) =
        let k = kind_of l in
        let p = payload_of l in
        let t' = targets_with t k p in
        let v' = values_with v k p in
        rw (ends-are t' v' k p, all_are t' v' k p, counts t v k p)
        (one_more (eqb k kind) (count t v) (entries p) _ _ (rw (counts t v k p) at (rise t' v' more)))

  pub switch_ends_rise : (s : List ℕ) → rises 0 (section_in SwitchEnds s) (length (section_in SwitchEntries s))
  unfolding adds
  switch_ends_rise s =
      rw zero-add at (rise SwitchEnds SwitchEntries 3 (λ p. targets_in p) (λ t v. t) (λ t v k p. refl) (λ t v k p. refl) (λ t v k p. refl) 0
      0 (lines_in s))

  pub lookup-ends_rise : (s : List ℕ) → rises 0 (section_in LookupEnds s) (length (section_in LookupEntries s))
  unfolding adds
  lookup-ends_rise s =
      rw zero-add at (rise LookupEnds LookupEntries 4 (λ p. values_in p) (λ t v. v) (λ t v k p. refl) (λ t v k p. refl) (λ t v k p. refl) 0 0
      (lines_in s))
