-- Document 01, 'Instruction and image': what is printed of a run and of a refusal. Definitions only.
use Rattle.std.specs.Prelude.{ℕ, suc, ◌+◌, ◌*◌, ◌/◌, cond, List, [], ◌∷◌, ◌++◌, eqb, Result, Ok, Err}
use Rattle.arrayvec.specs.ArrayString.{ArrayString as Text}
use Rattle.anomaly.specs.declared.Refusal.{Refusal}
use Rattle.anomaly.specs.Table.{number_of_refusal}
use Rattle.gc.specs.Lent.{page_size}
use Rattle.report.specs.Hex.{hex_of}
use Rattle.report.specs.declared.Summary.{Summary}

abbrev pub line_feed : List ℕ
line_feed = 10 ∷ []

-- 'end (2), pc (16), steps (8)'
unfoldable pub end_line : Summary → List ℕ
end_line s = hex_of 2 s.end ++ hex_of 16 s.pc ++ hex_of 8 s.steps ++ line_feed

-- 'each non-zero register as number (2) and value'
unfoldable pub register_line : ℕ → ℕ → List ℕ
register_line number value = cond (eqb value 0) [] (hex_of 2 number ++ hex_of 16 value ++ line_feed)

-- the registers from a number on
unfoldable pub register_lines : ℕ → List ℕ → List ℕ
register_lines number [] = []
register_lines number (value ∷ regs) = register_line number value ++ register_lines (suc number) regs

-- 'depth (4), pages (4; pushed bytes over page size), last page's length (8), strings (4)'
unfoldable pub state_line : Summary → List ℕ
state_line s = hex_of 4 s.depth ++ hex_of 4 (s.pushed / page_size) ++ hex_of 8 s.len ++ hex_of 4 s.strings ++ line_feed

unfoldable pub report_of : Summary → List ℕ → List ℕ
report_of s regs = end_line s ++ register_lines 0 regs ++ state_line s

-- the length of the longest report of 32 registers: its first line, a line for each register, its last line
abbrev pub longest : ℕ
longest = 27 + 19 * 32 + 21

-- 'A refusal, of an interning too, is its number alone in two digits.'
unfoldable pub refusal_of : ℕ → List ℕ
refusal_of number = hex_of 2 number ++ line_feed

-- what is written of a call: its text, or the number by which it was refused
abbrev pub written_of : Result Text Refusal → List ℕ
written_of (Ok text) = text.bytes
written_of (Err why) = refusal_of (number_of_refusal why)
