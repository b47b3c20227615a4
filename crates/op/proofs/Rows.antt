-- The rows of the table by their places: those of a run of opcodes that are alike, and those that no instruction has.
-- Assumes nothing.
use Rattle.std.proofs.Common.{◌≡◌, ℕ, zero, suc, ◌+◌, ◌-◌, ◌%◌, ◌<◌, ◌≤◌, Bool, true, false, ltb, List, [], ◌∷◌, map, length, get_or, take, drop, replicate, sym, refl, ap, ◌∙◌, le_of_suc-le-suc, not-suc-le-zero, arith, get_or-drop, get_or-take, ltb-false, ltb-true, Err}
use Rattle.anomaly.specs.declared.Refusal.TheVariants.{Opcode}
use lib.ListN.{get_or-replicate, get_or-map, get_or-eq_default}
use Rattle.op.specs.Layout.{parts_of}
use Rattle.op.specs.Decode.{Row, absent, rows, opcodes, row_of, decoded_by, decode_of}

-- what holds of `count` rows from `low` on holds of each
pub run : {A : Type 0} (f : Row → A) (x : A) (low count : ℕ) → map f (take count (drop low rows)) ≡ replicate count x →
    (k : ℕ) → low ≤ k → k < low + count → f (row_of k) ≡ x
run {A} f x low count alike k above below =
    let i = k - low in
    let inside : i < count = omega arith in
    let place : low + i ≡ k = omega arith in
    let part = take count (drop low rows) in
    ap (λ (j : ℕ). f (row_of j)) (sym place) ∙ ap f (sym (get_or-drop low rows i absent)) ∙ ap f (sym (get_or-take count (drop low rows) i absent inside))
    ∙ sym (get_or-map f part i absent) ∙ ap (λ (xs : List A). get_or xs i (f absent)) alike ∙ get_or-replicate count i x (f absent) inside

-- what holds of every row, and of none, holds of the row of any opcode
abbrev pub Each : (Row → Type 0) → List Row → Type 0
Each P [] = Unit {0}
Each P (r ∷ rs) = P r × Each P rs

-- a pair, for a long one that reads down the page
infixr 5 ◌also◌
pub ◌also◌ : {A B : Type 0} → A → B → A × B
a also b = (a, b)

each_of : (P : Row → Type 0) → P absent → (rs : List Row) → Each P rs → (k : ℕ) → P (get_or rs k absent)
each_of P none [] all k = none
each_of P none (r ∷ rs) all zero = all.0
each_of P none (r ∷ rs) all (suc k) = each_of P none rs all.1 k

pub each_row : (P : Row → Type 0) → P absent → Each P rows → (k : ℕ) → P (row_of k)
each_row P none all = each_of P none rows all

-- an element of a list is the same whatever stands for those past its end
any_default : {A : Type 0} (l : List A) (k : ℕ) (d e : A) → k < length l → get_or l k d ≡ get_or l k e
any_default [] k d e h = absurd (not-suc-le-zero h)
any_default (x ∷ l) zero d e h = refl
any_default (x ∷ l) (suc k) d e h = any_default l k d e (le_of_suc-le-suc h)

-- what is computed of each row stands at its place
pub each : (f : Row → ℕ) (d k : ℕ) → k < opcodes → get_or (map f rows) k d ≡ f (row_of k)
unfolding rows
each f d k h = any_default (map f rows) k d (f absent) h ∙ get_or-map f rows k absent

absent-between : (k : ℕ) → 40 ≤ k → k < 50 → row_of k ≡ absent
unfolding rows
absent-between = run (λ r. r) absent 40 10 refl

pub absent_above : (k : ℕ) → opcodes ≤ k → row_of k ≡ absent
unfolding rows
absent_above k high = get_or-eq_default rows absent {n = k} high

-- what holds of all rows from `low` on, and of no row, holds of each opcode from there on
pub onwards : {A : Type 0} (f : Row → A) (x : A) (low : ℕ) → map f (take (opcodes - low) (drop low rows)) ≡ replicate (opcodes - low) x →
    f absent ≡ x → (k : ℕ) → low ≤ k → f (row_of k) ≡ x
onwards f x low alike none k above = go (ltb k opcodes) refl
  where
    go : (below : Bool) → ltb k opcodes ≡ below → f (row_of k) ≡ x
    go true h = let small = ltb-true k opcodes h in run f x low (opcodes - low) alike k above (omega arith)
    go false h = ap f (absent_above k (ltb-false k opcodes h)) ∙ none

refused : (w : ℕ) → row_of (w % 256) ≡ absent → Err Opcode ≡ decode_of w
unfolding decoded_by decode_of
refused w h = ap (λ (r : Row). decoded_by r (parts_of w)) (sym h)

pub refused-between : (w : ℕ) → 40 ≤ w % 256 → w % 256 < 50 → Err Opcode ≡ decode_of w
refused-between w low high = refused w (absent-between (w % 256) low high)

pub refused_above : (w : ℕ) → opcodes ≤ w % 256 → Err Opcode ≡ decode_of w
refused_above w high = refused w (absent_above (w % 256) high)
