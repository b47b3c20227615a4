-- Worked cases beside those that document 01 marks (P), which stand in `corners`: one table; the one fact, by computation, that all its rows
-- hold is `all_hold` of proofs/Cases.antt. The ends of a division, `CastToBool`, `BEq` and the one NaN are document 01's, the sign of a
-- remainder is the Rust's, the sums, the comparison and the double of -2^63 are IEEE 754's. Definitions only.
use Rattle.std.specs.Prelude.{ℕ, ◌+◌, ◌-◌, ◌^◌, List, [], ◌∷◌, Result, Ok, Err}
use Rattle.std.specs.Bool.{beq}
use Rattle.std.specs.Float.Ieee as Ieee
use Rattle.value.specs.declared.int.DivisionError.{DivisionError}
use Rattle.value.specs.declared.int.DivisionError.TheVariants.{ByZero, Overflow}
use Rattle.value.specs.Int.{quotient_of, remainder_of}
use Rattle.value.specs.Double.{double, on}
use Rattle.value.specs.Cast.{truth, bit, cast_to_bool, cast_to_double}

-- the pattern of the integer -n
abbrev minus : ℕ → ℕ
minus n = 2 ^ 64 - n

-- end n of document 01, told apart from every pattern
abbrev end : ℕ → ℕ
end n = 2 ^ 64 + n

-- a division's answer as one number: the pattern of a result, or the end that the instruction stops with
abbrev shown : Result ℕ DivisionError → ℕ
shown (Ok p) = p
shown (Err ByZero) = end 1
shown (Err Overflow) = end 7

-- what a definition gives, and what the papers say
unfoldable pub rows : List (ℕ × ℕ)
rows =
    -- the remainder has the dividend's sign
    (shown (remainder_of 7 (minus 2)), 1)
    -- a zero divisor, and -2^63 by -1
    ∷ (shown (quotient_of (2 ^ 63) 0), end 1)
    ∷ (shown (remainder_of (2 ^ 63) 0), end 1)
    ∷ (shown (quotient_of (2 ^ 63) (minus 1)), end 7)
    ∷ (shown (remainder_of (2 ^ 63) (minus 1)), end 7)
    -- CastToDouble: -2^63, and a tie below 0
    ∷ (cast_to_double (2 ^ 63), 0xc3e0_0000_0000_0000)
    ∷ (cast_to_double (minus (2 ^ 53 + 1)), 0xc340_0000_0000_0000)
    -- CastToBool: the pattern of -0.0 is true; BEq: 2 and 1 are equal
    ∷ (cast_to_bool 0x8000_0000_0000_0000, 1)
    ∷ (bit (beq (truth 2) (truth 1)), 1)
    -- 0.1 + 0.2, and -0.0 - 0.0
    ∷ (on Ieee.add 0x3fb9_9999_9999_999a 0x3fc9_9999_9999_999a, 0x3fd3_3333_3333_3334)
    ∷ (on Ieee.sub 0x8000_0000_0000_0000 0, 0x8000_0000_0000_0000)
    -- the one NaN: of 0 / 0, and where an operand is another NaN; no number is below it
    ∷ (on Ieee.div 0 0, 0x7ff8_0000_0000_0000)
    ∷ (on Ieee.mul 0xfff8_0000_0000_1234 0x3ff0_0000_0000_0000, 0x7ff8_0000_0000_0000)
    ∷ (bit (Ieee.lt (double 0) (double 0x7ff8_0000_0000_0000)), 0)
    ∷ []
