-- The bits of a word that are zero where its parts hold what they may, and what is left to be tested of it. Definitions only.
use Rattle.std.specs.Prelude.{ℕ, ◌+◌, ◌-◌, ◌*◌, ◌^◌, Bool, true, cond, ◌&&◌, Ok, Err}
use Rattle.anomaly.specs.declared.Refusal.TheVariants.{Operand}
use Rattle.op.specs.Layout.{Parts, is_alignment, Field, unused, register, switchKind, allocKind, alignment, anyByte, anyNumber}
use Rattle.op.specs.Decode.{Row, row, absent}
use Rattle.op.specs.Reach.{Checked, there}
use Rattle.op.specs.declared.Counts.{Counts}

-- a field holds numbers below 2 to this
abbrev pub bits : Field → ℕ
bits unused = 0
bits register = 5
bits switchKind = 1
bits allocKind = 2
bits alignment = 8
bits anyByte = 8
bits anyNumber = 32

-- of `width` bits those from k on, which a number below 2 ^ k has not
abbrev pub from : ℕ → ℕ → ℕ
from width k = 2 ^ width - 2 ^ k

-- what is zero where bytes 1, 2 and 3 and the number in bytes 4 to 7 are below 2 ^ a, 2 ^ b, 2 ^ c and 2 ^ d
abbrev pub mask_of : ℕ → ℕ → ℕ → ℕ → ℕ
mask_of a b c d = from 32 d * 2 ^ 32 + (from 8 c * 2 ^ 24 + (from 8 b * 2 ^ 16 + from 8 a * 2 ^ 8))

-- 1 stands where an opcode is not carried: no mask has a bit of byte 0
unfoldable pub mask_of_row : Row → ℕ
mask_of_row (row one two three number reach make) = mask_of (bits one) (bits two) (bits three) (bits number)
mask_of_row absent = 1

-- `bits` says it all but for an alignment
abbrev pub aligned : Field → ℕ → Bool
aligned unused n = true
aligned register n = true
aligned switchKind n = true
aligned allocKind n = true
aligned alignment n = is_alignment n
aligned anyByte n = true
aligned anyNumber n = true

abbrev pub all_aligned : Field → Field → Field → Field → Parts → Bool
all_aligned one two three number p = aligned one p.one && aligned two p.two && aligned three p.three && aligned number p.number

-- what is answered of a word that has no bit of its mask; of a row that is not carried it is not asked
unfoldable pub rest_of : Row → Counts → Parts → Checked
rest_of (row one two three number reach make) n p = cond (all_aligned one two three number p) (there n reach p) (Err Operand)
rest_of absent n p = Ok tt
