-- What a line adds, in numbers, and how far the counts go. Assumes nothing.
use Prim.Native.Nat.{ℕ, ◌+◌, ◌-◌, ◌/◌, ◌≤◌}
use mathlib.Core.Path.{◌≡◌}
use mathlib.Core.Bool.{Bool, true, false, cond}
use mathlib.Core.List.{List, []}
use lib.ListN.{length, drop, length-drop}
use lib.Dec.{eqb}
use native.Mathlib.Nat.{div-le_self}
use native.Mathlib.Omega.{arith}
use Rattle.text.specs.Digits.{numbers}
use Rattle.text.specs.Lines.{payload_of}
use Rattle.text.specs.Sections.{targets_in, values_in, adds, targets_with, values_with}
use Rattle.text.specs.declared.sections.Section.{Section}
use Rattle.text.specs.declared.sections.Section.TheVariants.{Code, Globals, SwitchFirsts, SwitchEnds, SwitchEntries, LookupFirsts}
use Rattle.text.specs.declared.sections.Section.TheVariants.{LookupDefaults, LookupEnds, LookupEntries}
use Rattle.text.proofs.Entries.{length-numbers}
use Rattle.text.proofs.Naming.{globals-few}

entries-few : (from width : ℕ) (p : List ℕ) → length (numbers width ((length p - from) / width) (drop from p)) ≤ length p
entries-few from width p = rw length-numbers (omega (arith, div-le_self (length p - from) width))

either_few : (here : Bool) (xs : List ℕ) (most : ℕ) → length xs ≤ most → length (cond here xs []) ≤ most
either_few true xs most h = h
either_few false xs most h = omega arith

pub targets-few : (p : List ℕ) → length (targets_in p) ≤ length p
targets-few p = entries-few 16 4 p

pub values-few : (p : List ℕ) → length (values_in p) ≤ length p
values-few p = entries-few 32 16 p

pub adds-few : (section : Section) (targets values k : ℕ) (p : List ℕ) → length (adds section targets values k p) ≤ length p + 1
unfolding adds
adds-few Code targets values k p = either_few (eqb k 1) _ _ (omega arith)
adds-few Globals targets values k p = omega (arith, globals-few targets values k p)
adds-few SwitchFirsts targets values k p = either_few (eqb k 3) _ _ (omega arith)
adds-few SwitchEnds targets values k p = either_few (eqb k 3) _ _ (omega arith)
adds-few SwitchEntries targets values k p = either_few (eqb k 3) _ _ (omega (arith, targets-few p))
adds-few LookupFirsts targets values k p = either_few (eqb k 4) _ _ (omega arith)
adds-few LookupDefaults targets values k p = either_few (eqb k 4) _ _ (omega arith)
adds-few LookupEnds targets values k p = either_few (eqb k 4) _ _ (omega arith)
adds-few LookupEntries targets values k p = either_few (eqb k 4) _ _ (omega (arith, values-few p))

pub payload-few : (l : List ℕ) → length (payload_of l) ≤ length l
payload-few l = rw length-drop (omega arith)

pub with-few : (n k : ℕ) (p : List ℕ) → (targets_with n k p ≤ n + length p) × (values_with n k p ≤ n + length p)
with-few n k p =
    (omega (arith, either_few (eqb k 3) (targets_in p) (length p) (targets-few p)), omega (arith, either_few (eqb k 4) (values_in p) (length p) (values-few p)))

-- the entries of a line
module _ (l : List ℕ) {p xs : List ℕ} (is : p ≡ payload_of l) where
  pub targets-within : xs ≡ targets_in p → length xs ≤ length l
  targets-within e = rw (e, is) (omega (arith, targets-few (payload_of l), payload-few l))

  pub values-within : xs ≡ values_in p → length xs ≤ length l
  values-within e = rw (e, is) (omega (arith, values-few (payload_of l), payload-few l))
