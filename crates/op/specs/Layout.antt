-- Document 01, 'Instruction and image': the parts of a word, what may stand in them, and what they may name. Definitions only.
use Rattle.std.specs.Prelude.{ℕ, ◌+◌, ◌-◌, ◌/◌, ◌%◌, ◌^◌, Bool, cond, ◌&&◌, ◌||◌, ◌==◌, nat_lt}
use Rattle.gc.specs.declared.AllocType.{AllocType}
use Rattle.gc.specs.declared.AllocType.TheVariants.{Record, Array, Option, String}
use Rattle.op.specs.declared.Keys.{Keys}
use Rattle.op.specs.declared.Keys.TheVariants.{Str, Int}

-- the parts of a word: bytes 0 to 3, bytes 2 and 3 together, and bytes 4 to 7, as they stand and as a signed number
pub record Parts : Type 0 where
  pub opcode : ℕ
  pub one : ℕ
  pub two : ℕ
  pub three : ℕ
  pub target : ℕ
  pub number : ℕ
  pub signed : ℕ

-- 'A word is 64 bits; byte 0 is lowest'
abbrev pub byte : ℕ → ℕ → ℕ
byte k w = w / 256 ^ k % 256

-- bytes 4 to 7
abbrev pub high_of : ℕ → ℕ
high_of w = w / 2 ^ 32 % 2 ^ 32

-- a signed number of 32 bits as a pattern of 64: from 2 ^ 31 on it is negative
abbrev pub extended : ℕ → ℕ
extended n = cond (nat_lt n (2 ^ 31)) n (n + (2 ^ 64 - 2 ^ 32))

-- 'target takes bytes 2–3'; numbers take bytes 4–7, `imm` and `value` signed
abbrev pub parts_of : ℕ → Parts
parts_of w = record {
  opcode = w % 256;
  one = byte 1 w;
  two = byte 2 w;
  three = byte 3 w;
  target = w / 2 ^ 16 % 2 ^ 16;
  number = high_of w;
  signed = extended (high_of w);
}

-- what may stand in a byte, or in the number of bytes 4 to 7
pub data Field : Type 0 where
  unused register switchKind allocKind alignment anyByte anyNumber : Field

-- 'align not 1, 2, 4, 8'
abbrev pub is_alignment : ℕ → Bool
is_alignment n = n == 1 || n == 2 || n == 4 || n == 8

-- 'Unused bytes are zero'; 'register above 31'; 'Str is 0, Int 1; for `Alloc` Record 0, Array 1, Option 2, String 3'
abbrev pub holds : Field → ℕ → Bool
holds unused n = nat_lt n 1
holds register n = nat_lt n 32
holds switchKind n = nat_lt n 2
holds allocKind n = nat_lt n 4
holds alignment n = is_alignment n
holds anyByte n = nat_lt n 256
holds anyNumber n = nat_lt n (2 ^ 32)

-- 'Str is 0, Int 1'
abbrev pub keys_of : ℕ → Keys
keys_of n = cond (n == 0) Str Int

-- 'for `Alloc` Record 0, Array 1, Option 2, String 3'
abbrev pub kind_of : ℕ → AllocType
kind_of n = cond (n == 0) Record (cond (n == 1) Array (cond (n == 2) Option String))

-- bytes 1, 2 and 3 and the number in bytes 4 to 7 hold what they may
abbrev pub passes : Field → Field → Field → Field → Parts → Bool
passes one two three number p = holds one p.one && holds two p.two && holds three p.three && holds number p.number

-- what an instruction names by a number: nothing; a place in the code, by its target or by the number in bytes 4 to 7; by that number a
-- global or a table
pub data Reach : Type 0 where
  nothing jump function global switchTable lookupTable : Reach
