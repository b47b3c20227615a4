-- Document 01, 'Instruction and image': what a word means. Definitions only.
use Rattle.std.specs.Prelude.{ℕ, Bool, cond, List, [], ◌∷◌, slice_index_or, Result, Ok, Err}
use Rattle.anomaly.specs.declared.Refusal.{Refusal}
use Rattle.anomaly.specs.declared.Refusal.TheVariants.{Opcode, Operand}
use Rattle.op.specs.Layout.{Parts, parts_of, passes, keys_of, kind_of, Field, unused, register, switchKind, allocKind, alignment, anyByte, anyNumber}
use Rattle.op.specs.Layout.{Reach, nothing, jump, function, global, switchTable, lookupTable}
use Rattle.op.specs.declared.Op.{Op}
use Rattle.op.specs.declared.Op.TheVariants as op

-- an opcode: what bytes 1, 2 and 3 and the number in bytes 4 to 7 may hold, what it names, and the instruction; or one that is not carried
pub data Row : Type 0 where
  row : Field → Field → Field → Field → Reach → (Parts → Op) → Row
  absent : Row

-- 'the place of the `Op` in op.rs, from 0 (IAdd) to 60 (Nop), all 61 numbered'. A second register beside a target is byte 4:
-- the number in bytes 4 to 7 is then below 32
unfoldable pub rows : List Row
rows =
    -- 0: integer arithmetic
    row register register register unused nothing (λ p. op.IAdd p.one p.two p.three) ∷
    row register register unused anyNumber nothing (λ p. op.IAddI p.one p.two p.signed) ∷
    row register register register unused nothing (λ p. op.ISub p.one p.two p.three) ∷
    row register register unused anyNumber nothing (λ p. op.ISubI p.one p.two p.signed) ∷
    row register register register unused nothing (λ p. op.IMul p.one p.two p.three) ∷
    row register register unused anyNumber nothing (λ p. op.IMulI p.one p.two p.signed) ∷
    row register register register unused nothing (λ p. op.IDiv p.one p.two p.three) ∷
    row register register unused anyNumber nothing (λ p. op.IDivI p.one p.two p.signed) ∷
    row register register register unused nothing (λ p. op.IMod p.one p.two p.three) ∷
    row register register unused anyNumber nothing (λ p. op.IModI p.one p.two p.signed) ∷
    row register register register unused nothing (λ p. op.IAnd p.one p.two p.three) ∷
    row register register unused anyNumber nothing (λ p. op.IAndI p.one p.two p.signed) ∷
    -- 12: comparisons and doubles
    row register register register unused nothing (λ p. op.ILt p.one p.two p.three) ∷
    row register register register unused nothing (λ p. op.IGt p.one p.two p.three) ∷
    row register register register unused nothing (λ p. op.IEq p.one p.two p.three) ∷
    row register register unused anyNumber nothing (λ p. op.IEqI p.one p.two p.signed) ∷
    row register register unused anyNumber nothing (λ p. op.IGtI p.one p.two p.signed) ∷
    row register register unused anyNumber nothing (λ p. op.ILtI p.one p.two p.signed) ∷
    row register register register unused nothing (λ p. op.DAdd p.one p.two p.three) ∷
    row register register register unused nothing (λ p. op.DSub p.one p.two p.three) ∷
    row register register register unused nothing (λ p. op.DMul p.one p.two p.three) ∷
    row register register register unused nothing (λ p. op.DDiv p.one p.two p.three) ∷
    row register register register unused nothing (λ p. op.DLt p.one p.two p.three) ∷
    row register register register unused nothing (λ p. op.DGt p.one p.two p.three) ∷
    row register register register unused nothing (λ p. op.BEq p.one p.two p.three) ∷
    row register register register unused nothing (λ p. op.SEq p.one p.two p.three) ∷
    -- 26: moves, jumps, tables and calls
    row register register unused unused nothing (λ p. op.Mov p.one p.two) ∷
    row register unused unused anyNumber nothing (λ p. op.LoadI p.one p.signed) ∷
    row register unused unused anyNumber global (λ p. op.LoadG p.one p.number) ∷
    row unused anyByte anyByte unused jump (λ p. op.Jmp p.target) ∷
    row register anyByte anyByte unused jump (λ p. op.JmpT p.one p.target) ∷
    row register anyByte anyByte unused jump (λ p. op.JmpF p.one p.target) ∷
    row register anyByte anyByte anyNumber jump (λ p. op.JmpEqI p.one p.signed p.target) ∷
    row register anyByte anyByte anyNumber jump (λ p. op.JmpNeI p.one p.signed p.target) ∷
    row register anyByte anyByte register jump (λ p. op.JmpSEq p.one p.number p.target) ∷
    row register anyByte anyByte register jump (λ p. op.JmpSNe p.one p.number p.target) ∷
    row switchKind register unused anyNumber switchTable (λ p. op.Switch (keys_of p.one) p.two p.number) ∷
    row register register switchKind anyNumber lookupTable (λ p. op.Lookup (keys_of p.three) p.one p.two p.number) ∷
    row unused unused unused anyNumber function (λ p. op.Tail p.number) ∷
    row unused unused unused anyNumber function (λ p. op.Call p.number) ∷
    -- 40: Sys, Native, Push to Pop3, StoreSlot and LoadSlot are not carried
    absent ∷
    absent ∷
    absent ∷
    absent ∷
    absent ∷
    absent ∷
    absent ∷
    absent ∷
    absent ∷
    absent ∷
    -- 50: casts, memory, Ret, Assert, Halt and Nop
    row register register unused unused nothing (λ p. op.CastToInt p.one p.two) ∷
    row register register unused unused nothing (λ p. op.CastToDouble p.one p.two) ∷
    row register register unused unused nothing (λ p. op.CastToBool p.one p.two) ∷
    row register allocKind alignment anyNumber nothing (λ p. op.Alloc (kind_of p.two) p.one p.number p.three) ∷
    row register register unused anyNumber nothing (λ p. op.Store p.one p.number p.two) ∷
    row register register unused anyNumber nothing (λ p. op.Load p.one p.two p.number) ∷
    row register register unused anyNumber nothing (λ p. op.AddrOf p.one p.two p.number) ∷
    row unused unused unused unused nothing (λ p. op.Ret) ∷
    row register unused unused unused nothing (λ p. op.Assert p.one) ∷
    row unused unused unused unused nothing (λ p. op.Halt) ∷
    row unused unused unused unused nothing (λ p. op.Nop) ∷
    []

-- how many there are
abbrev pub opcodes : ℕ
opcodes = 61

abbrev pub row_of : ℕ → Row
row_of opcode = slice_index_or rows opcode absent

-- 13: 'register above 31, kind, align not 1, 2, 4, 8, or unused byte'
abbrev pub checked_of : {A : Type 0} → Bool → A → Result A Refusal
checked_of fits x = cond fits (Ok x) (Err Operand)

-- 12: 'opcode 40–49 or above 60'
unfoldable pub decoded_by : Row → Parts → Result Op Refusal
decoded_by (row one two three number reach make) p = checked_of (passes one two three number p) (make p)
decoded_by absent p = Err Opcode

abbrev pub decoded : Parts → Result Op Refusal
decoded p = decoded_by (row_of p.opcode) p

unfoldable pub decode_of : ℕ → Result Op Refusal
decode_of w = decoded (parts_of w)
