-- Words, what they mean, and whether an image may hold them, worked out by computation. Assumes nothing.
use Rattle.std.specs.Prelude.{◌≡◌, ℕ, ◌-◌, ◌^◌, List, [], ◌∷◌, map, refl, Result, Ok, Err}
use Rattle.anomaly.specs.declared.Refusal.{Refusal}
use Rattle.anomaly.specs.declared.Refusal.TheVariants.{Opcode, Operand, Target, Index}
use Rattle.op.specs.Decode.{decode_of, decoded_by, rows}
use Rattle.op.specs.Reach.{Checked, check_of}
use Rattle.gc.specs.declared.AllocType.TheVariants.{String}
use Rattle.op.specs.declared.Keys.TheVariants.{Int}
use Rattle.op.specs.declared.Op.{Op}
use Rattle.op.specs.declared.Op.TheVariants as op
use Rattle.op.specs.declared.Counts.{Counts}

-- the worked image of document 01; the operands that stand apart from the rule; each way to be refused
words : List (ℕ × Result Op Refusal)
words =
    -- LoadI r0, 7
    (0x000000070000001b, Ok (op.LoadI 0 7)) ∷
    -- IAddI r1, r0, -1
    (0xffffffff00000101, Ok (op.IAddI 1 0 (2 ^ 64 - 1))) ∷
    -- Halt
    (0x000000000000003b, Ok op.Halt) ∷
    -- JmpSNe r1, r5, 0x1234
    (0x0000000512340123, Ok (op.JmpSNe 1 5 0x1234)) ∷
    -- Switch on Int, r2, table 3
    (0x0000000300020124, Ok (op.Switch Int 2 3)) ∷
    -- Lookup r4, r2, on Int, table 3
    (0x0000000301020425, Ok (op.Lookup Int 4 2 3)) ∷
    -- Alloc r4, String, alignment 8, size 32
    (0x0000002008030435, Ok (op.Alloc String 4 32 8)) ∷
    -- Store r2 at r1 + 16
    (0x0000001000020136, Ok (op.Store 1 16 2)) ∷
    -- Sys
    (0x0000000000000028, Err Opcode) ∷
    -- no place in op.rs
    (0x000000000000003d, Err Opcode) ∷
    -- IAdd to register 32
    (0x0000000000002000, Err Operand) ∷
    -- Halt with byte 1
    (0x000000000000013b, Err Operand) ∷
    -- Jmp with byte 1
    (0x000000000000011d, Err Operand) ∷
    -- JmpSEq with byte 5
    (0x0000010000000022, Err Operand) ∷
    -- Switch on kind 2
    (0x0000000300020224, Err Operand) ∷
    -- Alloc at alignment 16
    (0x0000002010030435, Err Operand) ∷
    []

decodes : map (λ (c : ℕ × Result Op Refusal). decode_of c.0) words ≡ map (λ (c : ℕ × Result Op Refusal). c.1) words
unfolding words rows decoded_by decode_of
decodes = refl

-- in an image of three words, one global and no tables
counts : Counts
counts = record { code = 3; globals = 1; switches = 0; lookups = 0 }

in_image : List (ℕ × Checked)
in_image =
    -- Jmp 2
    (0x000000000002001d, Ok tt) ∷
    -- Jmp 3
    (0x000000000003001d, Err Target) ∷
    -- Call 3
    (0x0000000300000027, Err Target) ∷
    -- LoadG r0, global 0
    (0x000000000000001c, Ok tt) ∷
    -- LoadG r0, global 1
    (0x000000010000001c, Err Index) ∷
    -- Switch on Str, r0, table 0
    (0x0000000000000024, Err Index) ∷
    -- JmpEqI r0, 0, 3
    (0x0000000000030020, Err Target) ∷
    -- JmpEqI of register 32, and 13 comes before 14
    (0x0000000000032020, Err Operand) ∷
    []

checks : map (λ (c : ℕ × Checked). check_of counts c.0) in_image ≡ map (λ (c : ℕ × Checked). c.1) in_image
unfolding counts in_image rows decoded_by decode_of check_of
checks = refl
