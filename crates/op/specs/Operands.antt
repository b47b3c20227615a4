-- What is known of a word that is decoded: what its parts hold, and what they name once an image may hold it. Definitions only.
use Rattle.std.specs.Prelude.{◌≡◌, ℕ, ◌^◌, ◌<◌, true, Ok}
use Rattle.op.specs.Layout.{Parts, is_alignment, Field, unused, register, switchKind, allocKind, alignment, anyByte, anyNumber}
use Rattle.op.specs.Layout.{Reach, nothing, jump, function, global, switchTable, lookupTable}
use Rattle.op.specs.Decode.{Row, row, absent, decode_of}
use Rattle.op.specs.declared.Op.{Op}
use Rattle.op.specs.declared.Counts.{Counts}

-- an instruction that some word means
abbrev pub Instruction : Op → Type 0
Instruction op = (w : ℕ) × (decode_of w ≡ Ok op)

-- what a field says of its part
abbrev pub Holds : Field → ℕ → Type 0
Holds unused n = n < 1
Holds register n = n < 32
Holds switchKind n = n < 2
Holds allocKind n = n < 4
Holds alignment n = is_alignment n ≡ true
Holds anyByte n = n < 256
Holds anyNumber n = n < 2 ^ 32

pub record In (a b c d : Field) (p : Parts) : Type 0 where
  pub one : Holds a p.one
  pub two : Holds b p.two
  pub three : Holds c p.three
  pub number : Holds d p.number

-- a row makes this instruction of parts that hold what they may
abbrev pub Makes : Row → Parts → Op → Type 0
Makes (row one two three number reach make) p op = In one two three number p × (make p ≡ op)
Makes absent p op = ⊥

-- what is named is there
abbrev pub There : Counts → Reach → Parts → Type 0
There n nothing p = Unit {0}
There n jump p = p.target < n.code
There n function p = p.number < n.code
There n global p = p.number < n.globals
There n switchTable p = p.number < n.switches
There n lookupTable p = p.number < n.lookups
