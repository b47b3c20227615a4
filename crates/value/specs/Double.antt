-- A register's 64 bits as an IEEE 754 binary64 number, the bits that are written for a number, and an operation on two registers.
-- The order of two registers is `lt` of std's `Float.Ieee`, on their numbers. Definitions only.
use Rattle.std.specs.Prelude.{ℕ, cond, from_bits, is_nan, to_bits, Float}
use Rattle.std.specs.Float.{Format, binary64}

-- the number that the bits n stand for: sign, exponent and fraction of IEEE 754, 3.4. Every NaN's bits stand for the one `nan`
abbrev pub double : ℕ → Float
double n = from_bits binary64 n

-- the bits of a number: "one NaN pattern, 7ff8000000000000h"
unfoldable pub bits : Float → ℕ
bits x = cond (is_nan x) 0x7ff8_0000_0000_0000 (to_bits binary64 x)

-- an operation of IEEE 754, 5.4.1, on two registers, rounded once, to nearest and at a tie to even
abbrev pub on : (Format → Float → Float → Float) → ℕ → ℕ → ℕ
on op a b = bits (op binary64 (double a) (double b))
