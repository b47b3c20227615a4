-- What callers may use of `decode` and `check`: an instruction is what its row makes of parts that hold what they may, a word that an
-- image may hold names only what is there, and which numbers refuse. Assumes nothing.
use Rattle.std.proofs.Common.{◌≡◌, ℕ, ◌%◌, ◌^◌, ◌<◌, ◌≤◌, Bool, true, false, cond, ◌&&◌, ltb, refl, arith, ltb-true, Result, Ok, Err}
use Rattle.anomaly.specs.declared.Refusal.{Refusal}
use Rattle.anomaly.specs.declared.Refusal.TheVariants.{Target, Index}
use Rattle.anomaly.specs.Table.{number_of_refusal}
use Rattle.memory.proofs.Tests.{both}
use Rattle.op.specs.Layout.{Parts, parts_of, holds, passes, Field, unused, register, switchKind, allocKind, alignment, anyByte, anyNumber}
use Rattle.op.specs.Layout.{Reach, nothing, jump, function, global, switchTable, lookupTable}
use Rattle.op.specs.Decode.{Row, row, absent, row_of, checked_of, decoded_by, decode_of}
use Rattle.op.specs.Reach.{Checked, inside_of, there, reach_of, judged, check_of}
use Rattle.op.specs.Operands.{Holds, In, Makes, There}
use Rattle.op.specs.declared.Op.{Op}
use Rattle.op.specs.declared.Counts.{Counts}

-- ---- From the tests of a word to what they test

tested : (f : Field) (n : ℕ) → holds f n ≡ true → Holds f n
tested unused n h = ltb-true n 1 h
tested register n h = ltb-true n 32 h
tested switchKind n h = ltb-true n 2 h
tested allocKind n h = ltb-true n 4 h
tested alignment n h = h
tested anyByte n h = ltb-true n 256 h
tested anyNumber n h = ltb-true n (2 ^ 32) h

pub parts_in : (one two three number : Field) (p : Parts) → passes one two three number p ≡ true → In one two three number p
parts_in one two three number p h =
    let all = both (holds one p.one && holds two p.two && holds three p.three) (holds number p.number) h in
    let bytes = both (holds one p.one && holds two p.two) (holds three p.three) all.0 in
    let first = both (holds one p.one) (holds two p.two) bytes.0 in
    record {
      one = tested one p.one first.0;
      two = tested two p.two first.1;
      three = tested three p.three bytes.1;
      number = tested number p.number all.1;
    }

-- ---- Decoded words

module _ (r : Row) (p : Parts) where
  abbrev OkDecoded : Result Op Refusal → Type 0
  OkDecoded (Ok op) = Makes r p op
  OkDecoded (Err why) = (12 ≤ number_of_refusal why) × (number_of_refusal why ≤ 13)

  by_test : (fits : Bool) (op : Op) → (fits ≡ true → Makes r p op) → OkDecoded (checked_of fits op)
  by_test true op h = h refl
  by_test false op h = omega arith

by_row : (r : Row) (p : Parts) → OkDecoded r p (decoded_by r p)
unfolding decoded_by
by_row (row one two three number reach make) p =
    by_test (row one two three number reach make) p (passes one two three number p) (make p) (λ h. (parts_in one two three number p h, refl))
by_row absent p = omega arith

ok_decoded : (w : ℕ) → OkDecoded (row_of (w % 256)) (parts_of w) (decode_of w)
unfolding decode_of
ok_decoded w = by_row (row_of (w % 256)) (parts_of w)

pub makes : (w : ℕ) (op : Op) → decode_of w ≡ Ok op → Makes (row_of (w % 256)) (parts_of w) op
makes w op h = rw h at (ok_decoded w)

pub decode_refuses : (w : ℕ) (why : Refusal) → decode_of w ≡ Err why → (12 ≤ number_of_refusal why) × (number_of_refusal why ≤ 13)
decode_refuses w why h = rw h at (ok_decoded w)

-- ---- Checked words

-- a word that an image with these counts may hold
pub record Runs (n : Counts) (w : ℕ) : Type 0 where
  pub op : Op
  pub decodes : decode_of w ≡ Ok op
  pub reaches : There n (reach_of (row_of (w % 256))) (parts_of w)

module _ (n : Counts) (w : ℕ) where
  abbrev OkChecked : Checked → Type 0
  OkChecked (Ok x) = Runs n w
  OkChecked (Err why) = (12 ≤ number_of_refusal why) × (number_of_refusal why ≤ 15)

  by_count : (at count : ℕ) (refusal : Refusal) → (12 ≤ number_of_refusal refusal) × (number_of_refusal refusal ≤ 15) → (at < count → Runs n w) → OkChecked (inside_of at count refusal)
  by_count at count refusal range runs = go (ltb at count) refl
    where
      go : (test : Bool) → ltb at count ≡ test → OkChecked (cond test (Ok tt) (Err refusal))
      go true h = runs (ltb-true at count h)
      go false h = range

  by_reach : (r : Reach) (p : Parts) → (There n r p → Runs n w) → OkChecked (there n r p)
  by_reach nothing p runs = runs tt
  by_reach jump p runs = by_count p.target n.code Target (omega arith) runs
  by_reach function p runs = by_count p.number n.code Target (omega arith) runs
  by_reach global p runs = by_count p.number n.globals Index (omega arith) runs
  by_reach switchTable p runs = by_count p.number n.switches Index (omega arith) runs
  by_reach lookupTable p runs = by_count p.number n.lookups Index (omega arith) runs

  by_decoded : (d : Result Op Refusal) → decode_of w ≡ d → OkChecked (judged n (reach_of (row_of (w % 256))) (parts_of w) d)
  by_decoded (Ok op) e = by_reach (reach_of (row_of (w % 256))) (parts_of w) (λ h. record { op = op; decodes = e; reaches = h })
  by_decoded (Err why) e = let h = decode_refuses w why e in omega arith

  ok_checked : OkChecked (check_of n w)
  unfolding check_of
  ok_checked = by_decoded (decode_of w) refl

  pub fine : check_of n w ≡ Ok tt → Runs n w
  fine h = rw h at ok_checked

  pub check_refuses : (why : Refusal) → check_of n w ≡ Err why → (12 ≤ number_of_refusal why) × (number_of_refusal why ≤ 15)
  check_refuses why h = rw h at ok_checked
