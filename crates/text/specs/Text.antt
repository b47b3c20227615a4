-- Document 01, 'Instruction and image': which texts are images, and what the header says. Definitions only.
use Rattle.std.specs.Prelude.{ℕ, Bool, true, false, cond, not, ◌&&◌, List, length, take, eqb, leb, Result, Ok, Err}
use Rattle.anomaly.specs.declared.Refusal.{Refusal}
use Rattle.anomaly.specs.declared.Refusal.TheVariants.{Text}
use Rattle.text.specs.Digits.{field}
use Rattle.text.specs.Lines.{Lines, none, cut, line, lines_of, up_to, kind_of, payload_of, line_ok}
use Rattle.text.specs.declared.Head.{Head}

abbrev pub is_header : List ℕ → Bool
is_header l = line_ok l && eqb (kind_of l) 0

abbrev pub is_other : List ℕ → Bool
is_other l = line_ok l && not (eqb (kind_of l) 0)

-- after the header: well-formed lines and no second header
unfoldable pub rest_ok : Lines → Bool
rest_ok none = true
rest_ok cut = false
rest_ok (line l more) = is_other l && rest_ok more

-- '`00`: .. first and only once'
unfoldable pub lines_ok : Lines → Bool
lines_ok none = false
lines_ok cut = false
lines_ok (line l more) = is_header l && rest_ok more

-- 'at most 65,536 bytes'
unfoldable pub text_ok : List ℕ → Bool
text_ok s = leb (length s) 65536 && lines_ok (lines_of s)

-- '`00`: base 16 digits, pages 4, frames 4, slots 4, budget 8'
unfoldable pub head_in : List ℕ → Head
head_in p =
    record {
      base = field 0 16 p;
      pages = field 16 4 p;
      frames = field 20 4 p;
      slots = field 24 4 p;
      budget = field 28 8 p;
    }

-- the header is the first line
unfoldable pub head_of : List ℕ → Head
head_of s = head_in (payload_of (take (up_to s) s))

-- 19, or the header
unfoldable pub read_of : List ℕ → Result Head Refusal
read_of s = cond (text_ok s) (Ok (head_of s)) (Err Text)
