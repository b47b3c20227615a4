-- The row of an instruction, by the place of its variant in `Op`: the rows that are carried stand in the order of the variants. So of an instruction
-- that a word means the operands are parts of the word, in range as its row says. Assumes nothing.
use Rattle.std.proofs.Common.{◌≡◌, ℕ, zero, suc, ◌+◌, ◌%◌, List, [], ◌∷◌, map, get_or, sym, refl, ap, ◌∙◌, subst, inl, inr, arith}
use lib.ListN.{get_or-map}
use denote.Struct.Field as Declared
use denote.Struct.Values.{Values}
use denote.Enum.Declared.{Choice}
use Rattle.op.specs.Layout.{Parts, parts_of}
use Rattle.op.specs.Decode.{Row, row, absent, rows, row_of}
use Rattle.op.specs.Operands.{Instruction, In, Makes}
use Rattle.op.specs.declared.Op.{Op}
use Rattle.op.specs.contracts.Op.{the_parts as parts, as_values}
use Rattle.op.proofs.Sound.{makes}

-- ---- the place of a variant in an enum, and the values of its fields

abbrev place : (vs : List (List Declared.Field)) → Choice vs → ℕ
place [] c = absurd c
place (v ∷ vs) (inl x) = 0
place (v ∷ vs) (inr c) = suc (place vs c)

abbrev fields_at : List (List Declared.Field) → ℕ → List Declared.Field
fields_at [] k = []
fields_at (v ∷ vs) zero = v
fields_at (v ∷ vs) (suc k) = fields_at vs k

abbrev own : (vs : List (List Declared.Field)) (c : Choice vs) → Values (fields_at vs (place vs c))
own [] c = absurd c
own (v ∷ vs) (inl x) = x
own (v ∷ vs) (inr c) = own vs c

-- the values of variant k, or others where it is another variant
abbrev values_at : (vs : List (List Declared.Field)) (k : ℕ) → Values (fields_at vs k) → Choice vs → Values (fields_at vs k)
values_at [] k other c = absurd c
values_at (v ∷ vs) zero other (inl x) = x
values_at (v ∷ vs) zero other (inr c) = other
values_at (v ∷ vs) (suc k) other (inl x) = other
values_at (v ∷ vs) (suc k) other (inr c) = values_at vs k other c

abbrev pub variant_of : Op → ℕ
variant_of op = place parts (as_values op)

-- the operands of an instruction of the same variant as `like`
abbrev pub operands : (like : Op) → Op → Values (fields_at parts (variant_of like))
operands like op = values_at parts (variant_of like) (own parts (as_values like)) (as_values op)

-- ---- the opcode of an instruction is its row's place

-- the opcodes that are carried, of rows that begin at k
unfoldable pub carried : ℕ → List Row → List ℕ
carried k [] = []
carried k (row one two three number reach make ∷ rs) = k ∷ carried (suc k) rs
carried k (absent ∷ rs) = carried (suc k) rs

unfoldable pub opcode_of : Op → ℕ
opcode_of op = get_or (carried 0 rows) (variant_of op) 0

made : Parts → Row → ℕ
made p (row one two three number reach make) = opcode_of (make p)
made p absent = 0

places : ℕ → List Row → List ℕ
places k [] = []
places k (row one two three number reach make ∷ rs) = k ∷ places (suc k) rs
places k (absent ∷ rs) = 0 ∷ places (suc k) rs

in_order : (p : Parts) → map (made p) rows ≡ places 0 rows
unfolding rows carried opcode_of places made
in_order p = refl

place_of : (p : Parts) (op : Op) (rs : List Row) (low k : ℕ) → Makes (get_or rs k absent) p op → get_or (places low rs) k 0 ≡ low + k
unfolding places
place_of p op [] low k m = absurd m
place_of p op (row one two three number reach make ∷ rs) low zero m = omega arith
place_of p op (absent ∷ rs) low zero m = absurd m
place_of p op (row one two three number reach make ∷ rs) low (suc k) m = let e = place_of p op rs (suc low) k m in omega arith
place_of p op (absent ∷ rs) low (suc k) m = let e = place_of p op rs (suc low) k m in omega arith

by_row : (p : Parts) (op : Op) (r : Row) → Makes r p op → opcode_of op ≡ made p r
unfolding made
by_row p op (row one two three number reach make) m = ap opcode_of (sym m.1)
by_row p op absent m = absurd m

row_of_lem : (k : ℕ) (p : Parts) (op : Op) → Makes (row_of k) p op → k ≡ opcode_of op
unfolding made
row_of_lem k p op m =
    let e = place_of p op rows 0 k m in
    let here : get_or (places 0 rows) k 0 ≡ k = omega arith in
    sym (by_row p op (row_of k) m ∙ sym (get_or-map (made p) rows k absent) ∙ ap (λ (l : List ℕ). get_or l k 0) (in_order p) ∙ here)

-- ---- an instruction that a word means: its operands are parts that hold what they may

abbrev pub Operands : Row → Parts → Op → Type 0
Operands (row one two three number reach make) p op = In one two three number p × (operands op (make p) ≡ operands op op)
Operands absent p op = ⊥

from : (p : Parts) (op : Op) (r : Row) → Makes r p op → Operands r p op
from p op (row one two three number reach make) m = (m.0, ap (operands op) m.1)
from p op absent m = absurd m

pub in_row : (op : Op) → Instruction op → (p : Parts) × Operands (row_of (opcode_of op)) p op
in_row op i =
    let w = i.0 in
    let m = makes w op i.1 in
    (parts_of w, subst (λ (k : ℕ). Operands (row_of k) (parts_of w) op) (row_of_lem (w % 256) (parts_of w) op m) (from (parts_of w) op (row_of (w % 256)) m))
