-- A register's 64 bits as a signed integer, in two's complement, and the quotient and the remainder of two registers.
-- The order of two registers is `int_lt` of std, on their integers. Definitions only.
use Rattle.std.specs.Prelude.{ℕ, suc, ◌-◌, ◌^◌, Bool, cond, ◌&&◌, ℤ, pos, negsuc, ◌==◌, int_div, int_rem, nat_lt, Result, Ok, Err}
use Rattle.value.specs.declared.int.DivisionError.{DivisionError}
use Rattle.value.specs.declared.int.DivisionError.TheVariants.{ByZero, Overflow}

-- the integer that the bits n stand for: n below 2^63, and from there on n - 2^64. `negsuc k` is -(k + 1)
unfoldable pub signed : ℕ → ℤ
signed n = cond (nat_lt n (2 ^ 63)) (pos n) (negsuc (2 ^ 64 - suc n))

-- the bits of an integer z from -2^63 to 2^63 - 1: z, and below 0 z + 2^64
unfoldable pub pattern : ℤ → ℕ
pattern (pos n) = n
pattern (negsuc n) = 2 ^ 64 - suc n

-- -2^63 by -1, of a remainder too
abbrev pub overflows : ℕ → ℕ → Bool
overflows a b = a == 2 ^ 63 && b == 2 ^ 64 - 1

-- "A zero divisor is tested first"; then the overflow; else the bits of the result of `op`
unfoldable pub divided : (ℤ → ℤ → ℤ) → ℕ → ℕ → Result ℕ DivisionError
divided op a b = cond (b == 0) (Err ByZero) (cond (overflows a b) (Err Overflow) (Ok (pattern (op (signed a) (signed b)))))

-- the integers that are divided, where a result comes of it
unfoldable pub operands_of : ℕ → ℕ → Result (ℤ × ℤ) DivisionError
operands_of a b = cond (b == 0) (Err ByZero) (cond (overflows a b) (Err Overflow) (Ok (signed a, signed b)))

-- Rust's `/` on i64, which rounds toward zero
abbrev pub quotient_of : ℕ → ℕ → Result ℕ DivisionError
quotient_of = divided int_div

-- Rust's `%` on i64, whose result has the sign of the dividend
abbrev pub remainder_of : ℕ → ℕ → Result ℕ DivisionError
remainder_of = divided int_rem
