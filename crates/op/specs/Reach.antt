-- Document 01, 'Ends and numbers', the rows 12 to 15: whether an image may hold a word. Definitions only.
use Rattle.std.specs.Prelude.{ℕ, ◌%◌, cond, nat_lt, Result, Ok, Err}
use Rattle.anomaly.specs.declared.Refusal.{Refusal}
use Rattle.anomaly.specs.declared.Refusal.TheVariants.{Target, Index}
use Rattle.op.specs.Layout.{Parts, parts_of, Reach, nothing, jump, function, global, switchTable, lookupTable}
use Rattle.op.specs.Decode.{Row, row, absent, row_of, decode_of}
use Rattle.op.specs.declared.Op.{Op}
use Rattle.op.specs.declared.Counts.{Counts}

-- whether an image may hold a word
abbrev pub Checked : Type 0
Checked = Result (Unit {0}) Refusal

-- a number that is not below its count is refused
abbrev pub inside_of : ℕ → ℕ → Refusal → Checked
inside_of at count refusal = cond (nat_lt at count) (Ok tt) (Err refusal)

-- 14: 'jump or function past the code'; 15: 'global or table index past its count'
abbrev pub there : Counts → Reach → Parts → Checked
there n nothing p = Ok tt
there n jump p = inside_of p.target n.code Target
there n function p = inside_of p.number n.code Target
there n global p = inside_of p.number n.globals Index
there n switchTable p = inside_of p.number n.switches Index
there n lookupTable p = inside_of p.number n.lookups Index

abbrev pub reach_of : Row → Reach
reach_of (row one two three number reach make) = reach
reach_of absent = nothing

-- 'word by word 12, 13, 14, 15': 12 and 13 as it is decoded, then what it names
abbrev pub judged : Counts → Reach → Parts → Result Op Refusal → Checked
judged n reach p (Ok op) = there n reach p
judged n reach p (Err refusal) = Err refusal

unfoldable pub check_of : Counts → ℕ → Checked
check_of n w = judged n (reach_of (row_of (w % 256))) (parts_of w) (decode_of w)
