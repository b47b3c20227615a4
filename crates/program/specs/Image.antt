-- An image as it is lent: code, globals and tables, and what the loader and every run refuse of it. Definitions only.
use Rattle.std.specs.Prelude.{ℕ, zero, suc, ◌-◌, ◌%◌, Bool, true, false, ◌&&◌, List, [], ◌∷◌, length, get_or, leb, ltb, eqb, Result, Ok, Err, slice_index, ◌≤◌, ◌<◌, ◌≡◌}
use Rattle.std.specs.Prelude as std
use Rattle.std.specs.Option.{MatchOption}
use Rattle.std.specs.Borrow.{Bor}
use Rattle.std.proofs.Math.Option.{Option, none, some}
use Rattle.memory.specs.Lists.{part}
use Rattle.anomaly.specs.declared.Refusal.{Refusal}
use Rattle.anomaly.specs.Table.{number_of_refusal}
use Rattle.op.specs.declared.Counts.{Counts}
use Rattle.op.specs.Reach.{Checked, check_of}

-- tables of one kind as three lists: the first key of each, where the entries of each end, and all entries in a row
pub record Tables : Type 0 where
  pub firsts : List ℕ
  pub ends : List ℕ
  pub entries : List ℕ

-- `defaults` has that of each `Lookup` table
pub record Image : Type 0 where
  pub code : List ℕ
  pub globals : List ℕ
  pub switches : Tables
  pub lookups : Tables
  pub defaults : List ℕ

abbrev pub tables_of : List ℕ → List ℕ → List ℕ → Tables
tables_of firsts ends entries = record { firsts = firsts; ends = ends; entries = entries }

abbrev pub image_of : List ℕ → List ℕ → Tables → Tables → List ℕ → Image
image_of code globals switches lookups defaults = record {
  code = code;
  globals = globals;
  switches = switches;
  lookups = lookups;
  defaults = defaults;
}

-- where the entries of table k begin
unfoldable pub start_of : List ℕ → ℕ → ℕ
start_of ends zero = 0
start_of ends (suc k) = get_or ends k 0

unfoldable pub entries_of : Tables → ℕ → List ℕ
entries_of t k = part (start_of t.ends k) (get_or t.ends k 0 - start_of t.ends k) t.entries

-- the first key of table k, and its entries; or that there is none
abbrev pub IsTable : Tables → ℕ → std.Option (ℕ × Bor (List ℕ)) → Type 0
IsTable t k r =
    MatchOption r (length t.firsts ≤ k) (λ x. (k < length t.firsts) × (x.0 ≡ slice_index t.firsts k) × (x.1.now ≡ entries_of t k))

unfoldable pub counts : Image → Counts
counts im = record {
  code = length im.code;
  globals = length im.globals;
  switches = length im.switches.firsts;
  lookups = length im.lookups.firsts;
}

-- ---- refusals

pub record Test : Type 0 where
  pub passes : Bool
  pub number : ℕ

abbrev pub test : Bool → ℕ → Test
test b n = record { passes = b; number = n }

-- 10: 'code 0–65,536; globals 0–4,096; 256 tables a kind, 4,096 entries in all a kind'; the ends go up from 0 to the number of entries
unfoldable pub rising : ℕ → List ℕ → ℕ → Bool
rising from [] to = eqb from to
rising from (e ∷ es) to = leb from e && rising e es to

-- of so many firsts, ends and entries
abbrev pub tables_fit : ℕ → ℕ → ℕ → Bool
tables_fit firsts ends entries = leb firsts 256 && (eqb ends firsts && leb entries 4096)

unfoldable pub tables_ok : Tables → Bool
tables_ok t = tables_fit (length t.firsts) (length t.ends) (length t.entries) && rising 0 t.ends (length t.entries)

unfoldable pub image_ok : Image → Bool
image_ok im =
    leb (length im.code) 65536
    && (leb (length im.globals) 4096
    && (tables_ok im.switches
    && (tables_ok im.lookups
    && eqb (length im.defaults) (length im.lookups.firsts))))

-- the part of it that the lengths of sections decide
abbrev pub sizes_fit : Image → Bool
sizes_fit im =
    leb (length im.code) 65536
    && (leb (length im.globals) 4096
    && (tables_fit (length im.switches.firsts) (length im.switches.ends) (length im.switches.entries)
    && (tables_fit (length im.lookups.firsts) (length im.lookups.ends) (length im.lookups.entries)
    && eqb (length im.defaults) (length im.lookups.firsts))))

-- 11: 'code not empty, byte 0 of the last word isn't 59'
unfoldable pub ends_in_halt : List ℕ → Bool
ends_in_halt [] = true
ends_in_halt (w ∷ ws) = eqb (get_or (w ∷ ws) (length ws) 0 % 256) 59

-- all below n: 16, 'table target past the code', and what 9 asks of the frames in use
unfoldable pub below : ℕ → List ℕ → Bool
below n [] = true
below n (x ∷ xs) = ltb x n && below n xs

-- 12 to 15, of one word
unfoldable pub word_test : Checked → Test
word_test (Ok x) = test true 0
word_test (Err why) = test false (number_of_refusal why)

unfoldable pub word_tests : Counts → List ℕ → List Test
word_tests n [] = []
word_tests n (w ∷ ws) = word_test (check_of n w) ∷ word_tests n ws

-- 'Order: 10, 11, 16, then word by word 12, 13, 14, 15', what 10 says of the rest of what is lent being handed in
unfoldable pub image_tests : Bool → Image → List Test
image_tests lent im =
    test (lent && image_ok im) 10
    ∷ test (ends_in_halt im.code) 11
    ∷ test (below (length im.code) im.switches.entries) 16
    ∷ word_tests (counts im) im.code

-- the number of the first test that fails
unfoldable pub failing : List Test → Option ℕ
failing [] = none
failing (t ∷ ts) = elim t.passes [ true ↦ failing ts | false ↦ some t.number ]

-- the number by which the code refuses
abbrev pub refused_with : {A : Type 0} → Result A Refusal → Option ℕ
refused_with (Ok x) = none
refused_with (Err why) = some (number_of_refusal why)
