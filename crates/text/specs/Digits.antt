-- Document 01, 'Instruction and image': 'lower-case lines, highest digit first'. Definitions only.
use Rattle.std.specs.Prelude.{ℕ, zero, suc, ◌+◌, ◌-◌, ◌*◌, ◌%◌, Bool, true, cond, ◌&&◌, List, [], ◌∷◌, drop, ltb, leb}
use Rattle.memory.specs.Lists.{part}

-- the value of `0` to `9`, bytes 48 to 57, and `a` to `f`, 97 to 102; 16 of any other byte
unfoldable pub value_of_digit : ℕ → ℕ
value_of_digit c = cond (ltb c 48) 16 (cond (leb c 57) (c - 48) (cond (ltb c 97) 16 (cond (leb c 102) (c - 87) 16)))

unfoldable pub all_digits : List ℕ → Bool
all_digits [] = true
all_digits (c ∷ s) = ltb (value_of_digit c) 16 && all_digits s

-- the digits s read on from the number w; what is no digit counts as 0, in texts that are refused anyway
unfoldable pub read_on : ℕ → List ℕ → ℕ
read_on w [] = w
read_on w (c ∷ s) = read_on (w * 16 + value_of_digit c % 16) s

-- the number of n digits that starts at the digit i of p
abbrev pub field : ℕ → ℕ → List ℕ → ℕ
field i n p = read_on 0 (part i n p)

-- count numbers of n digits each, one behind the other
unfoldable pub numbers : ℕ → ℕ → List ℕ → List ℕ
numbers n zero p = []
numbers n (suc count) p = field 0 n p ∷ numbers n count (drop n p)
