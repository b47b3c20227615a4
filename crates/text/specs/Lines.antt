-- Document 01, 'Instruction and image': the lines of a text, their kinds and payloads. Definitions only.
use Rattle.std.specs.Prelude.{ℕ, suc, ◌-◌, ◌%◌, Bool, cond, ◌&&◌, ◌||◌, List, [], ◌∷◌, length, drop, eqb, leb}
use Rattle.text.specs.Digits.{all_digits, field}

-- 'Each line ends with a line feed': lines up to the text's end, or up to bytes that no line feed ends
pub data Lines : Type 0 where
  none : Lines
  cut : Lines
  line : List ℕ → Lines → Lines

-- a byte put before the first line
unfoldable pub before : ℕ → Lines → Lines
before c none = cut
before c cut = cut
before c (line l more) = line (c ∷ l) more

unfoldable pub lines_of : List ℕ → Lines
lines_of [] = none
lines_of (c ∷ s) = cond (eqb c 10) (line [] (lines_of s)) (before c (lines_of s))

-- those that a line feed ends, without their line feeds
unfoldable pub whole : Lines → List (List ℕ)
whole none = []
whole cut = []
whole (line l more) = l ∷ whole more

abbrev pub lines_in : List ℕ → List (List ℕ)
lines_in s = whole (lines_of s)

-- how many bytes stand before the first line feed
unfoldable pub up_to : List ℕ → ℕ
up_to [] = 0
up_to (c ∷ s) = cond (eqb c 10) 0 (suc (up_to s))

-- a line is two digits of its kind, then its payload
abbrev pub kind_of : List ℕ → ℕ
kind_of l = field 0 2 l

abbrev pub payload_of : List ℕ → List ℕ
payload_of l = drop 2 l

-- how many digits a payload has, by its kind. `00`: base 16, pages 4, frames 4, slots 4, budget 8. `01`: word. `02`: global. `03`: first, then
-- 4-digit targets. `04`: first, default, values. `05`: string bytes. 'Words, globals, firsts, defaults and values have 16 digits.'
unfoldable pub count_ok : ℕ → ℕ → Bool
count_ok kind n =
    (eqb kind 0 && eqb n 36) || (eqb kind 1 && eqb n 16) || (eqb kind 2 && eqb n 16) || (eqb kind 3 && (leb 16 n && eqb (n % 4) 0))
    || (eqb kind 4 && (leb 32 n && eqb (n % 16) 0)) || (eqb kind 5 && eqb (n % 2) 0)

-- 'an empty line, another kind, a wrong digit or a wrong count of digits is 19'
unfoldable pub line_ok : List ℕ → Bool
line_ok l = leb 2 (length l) && (all_digits l && count_ok (kind_of l) (length l - 2))
