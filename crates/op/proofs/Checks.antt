-- A word is answered by its mask, and by what the mask leaves to its opcode. Assumes nothing.
use Rattle.std.proofs.Common.{◌≡◌, ℕ, ◌%◌, ◌<◌, ◌≤◌, Bool, true, false, cond, ◌&&◌, eqb, ltb, sym, refl, ap, arith, ltb-false, ltb-true, ne_eqb, Ok, Err}
use Rattle.anomaly.specs.declared.Refusal.TheVariants.{Opcode, Operand, Target}
use lib.Bits.{bit_and}
use Rattle.op.specs.Layout.{Parts, parts_of, Reach}
use Rattle.op.specs.Decode.{Row, row, absent, rows, row_of, checked_of, decoded_by, decode_of}
use Rattle.op.specs.Reach.{Checked, inside_of, there, reach_of, judged, check_of}
use Rattle.op.specs.Masks.{bits, all_aligned, mask_of, mask_of_row, rest_of}
use Rattle.op.specs.declared.Op.{Op}
use Rattle.op.specs.declared.Counts.{Counts}
use Rattle.op.proofs.Masks.{by_mask}
use Rattle.op.proofs.Rows.{run, onwards}

-- ---- By the mask ----

by_tests : (n : Counts) (reach : Reach) (p : Parts) (fits exact : Bool) (op : Op) →
    judged n reach p (checked_of (fits && exact) op) ≡ cond fits (cond exact (there n reach p) (Err Operand)) (Err Operand)
by_tests n reach p true true op = refl
by_tests n reach p true false op = refl
by_tests n reach p false exact op = refl

abbrev answer : ℕ → Row → Counts → ℕ → Checked
answer mask r n w = cond (eqb mask 1) (Err Opcode) (cond (eqb (bit_and w mask) 0) (rest_of r n (parts_of w)) (Err Operand))

by_row : (r : Row) (n : Counts) (w : ℕ) → judged n (reach_of r) (parts_of w) (decoded_by r (parts_of w)) ≡ answer (mask_of_row r) r n w
unfolding decoded_by mask_of_row rest_of
by_row (row a b c d reach make) n w =
    let mask : ℕ = mask_of (bits a) (bits b) (bits c) (bits d) in
    let carried : eqb mask 1 ≡ false = ne_eqb mask 1 (λ e. omega arith) in
    rw (by_mask a b c d w, carried) (by_tests n reach (parts_of w) (eqb (bit_and w mask) 0) (all_aligned a b c d (parts_of w)) (make (parts_of w)))
by_row absent n w = refl

pub checked_by : (mask : ℕ) (n : Counts) (w : ℕ) → mask ≡ mask_of_row (row_of (w % 256)) → answer mask (row_of (w % 256)) n w ≡ check_of n w
unfolding decode_of check_of
checked_by mask n w e = rw e (sym (by_row (row_of (w % 256)) n w))

-- ---- By the opcode ----

abbrev Rest : Type 0
Rest = Counts → Parts → Checked

module _ (k : ℕ) (n : Counts) (p : Parts) where
  alike : (x : Rest) → rest_of (row_of k) ≡ x → x n p ≡ rest_of (row_of k) n p
  alike x e = ap (λ (r : Rest). r n p) (sym e)

  pub jump_rest : 29 ≤ k → k < 36 → inside_of p.target n.code Target ≡ rest_of (row_of k) n p
  unfolding rows rest_of
  jump_rest low high = alike _ (run rest_of (λ n p. inside_of p.target n.code Target) 29 7 refl k low high)

  pub function_rest : 38 ≤ k → k < 40 → inside_of p.number n.code Target ≡ rest_of (row_of k) n p
  unfolding rows rest_of
  function_rest low high = alike _ (run rest_of (λ n p. inside_of p.number n.code Target) 38 2 refl k low high)

  pub no_rest_below : k < 28 → Ok tt ≡ rest_of (row_of k) n p
  unfolding rows rest_of
  no_rest_below high = alike _ (run rest_of (λ n p. Ok tt) 0 28 refl k (omega arith) high)

  pub no_rest_above : 40 ≤ k → (k ≡ 53 → ⊥) → Ok tt ≡ rest_of (row_of k) n p
  unfolding rows rest_of
  no_rest_above low other = go (ltb k 53) refl
    where
      go : (below : Bool) → ltb k 53 ≡ below → Ok tt ≡ rest_of (row_of k) n p
      go true h = alike _ (run rest_of (λ n p. Ok tt) 40 13 refl k low (ltb-true k 53 h))
      go false h = let above = ltb-false k 53 h in alike _ (onwards rest_of (λ n p. Ok tt) 54 refl refl k (omega arith))
