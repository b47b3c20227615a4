-- Document 01's worked image, a text with every kind of line, and texts that are refused, in one table, and the one fact, by computation, that
-- all its rows hold. Assumes nothing.
use Rattle.std.specs.Prelude.{◌≡◌, refl, true, cond, List, [], ◌∷◌, ◌++◌, ℕ, zero, suc, ◌+◌, ◌/◌, ◌%◌, ◌^◌, length, take, ltb, Result, Ok, Err}
use Rattle.memory.specs.Lists.{same}
use Rattle.memory.specs.Rows.{hold_lists}
use Rattle.anomaly.specs.declared.Refusal.{Refusal}
use Rattle.anomaly.specs.Table.{number_of_refusal}
use Rattle.text.specs.Digits.{value_of_digit, all_digits, read_on, numbers}
use Rattle.text.specs.Lines as Lines
use Rattle.text.specs.Text.{rest_ok, lines_ok, text_ok, head_in, head_of, read_of}
use Rattle.text.specs.Sections.{adds, section_of, section_in}
use Rattle.text.specs.Names.{Name, names_of, names_in}
use Rattle.text.specs.declared.Head.{Head}
use Rattle.text.specs.declared.sections.Section.TheVariants.{Code, Globals, SwitchFirsts, SwitchEnds, SwitchEntries, LookupFirsts}
use Rattle.text.specs.declared.sections.Section.TheVariants.{LookupDefaults, LookupEnds, LookupEntries}

-- a line of n digits, written as one number, and its line feed
unfoldable pub digits : ℕ → ℕ → List ℕ
digits zero v = []
digits (suc n) v = (v / 16 ^ n % 16 + cond (ltb (v / 16 ^ n % 16) 10) 48 87) ∷ digits n v

abbrev pub line : ℕ → ℕ → List ℕ
line n v = digits n v ++ 10 ∷ []

-- the document's input
unfoldable pub worked : List ℕ
worked =
    line 38 0x0000000000000100000001000400400000000a
    ++ line 18 0x01000000070000001b
    ++ line 18 0x01ffffffff00000101
    ++ line 18 0x01000000000000003b

-- a global, two names and a global again; two jump tables and two lookup tables, one of each with no entries
unfoldable pub every_kind : List ℕ
every_kind =
    line 38 0x0000000000000100000001000400400000000a
    ++ line 18 0x0200000000000000ff
    ++ line 8 0x05616263
    ++ line 34 0x040000000000000010000000000000009a
    ++ line 30 0x030000000000000010000100020003
    ++ line 2 0x05
    ++ line 18 0x030000000000000020
    ++ line 66 0x0400000000000000200000000000000099000000000000000100000000000000ff
    ++ line 22 0x0300000000000000300004
    ++ line 18 0x020000000000000001

-- the header's numbers, or the number of the refusal
unfoldable pub told : Result Head Refusal → List ℕ
told (Ok h) = h.base ∷ h.pages ∷ h.frames ∷ h.slots ∷ h.budget ∷ []
told (Err why) = number_of_refusal why ∷ []

-- of each name its global, how many bytes it has, and they
unfoldable pub told_names : List Name → List ℕ
told_names [] = []
told_names (name ∷ more) = name.global ∷ length name.bytes ∷ name.bytes ++ told_names more

abbrev refused : List ℕ
refused = 19 ∷ []

unfoldable pub rows : List (List ℕ × List ℕ)
rows =
    (told (read_of worked), 0x10000 ∷ 1 ∷ 4 ∷ 0x40 ∷ 10 ∷ [])
    ∷ (section_in Code worked, 0x7_0000_001b ∷ 0xffff_ffff_0000_0101 ∷ 0x3b ∷ [])
    ∷ (told (read_of every_kind), 0x10000 ∷ 1 ∷ 4 ∷ 0x40 ∷ 10 ∷ [])
    ∷ (section_in Globals every_kind, 0xff ∷ 0 ∷ 0 ∷ 1 ∷ [])
    ∷ (section_in SwitchFirsts every_kind, 0x10 ∷ 0x20 ∷ 0x30 ∷ [])
    ∷ (section_in SwitchEnds every_kind, 3 ∷ 3 ∷ 4 ∷ [])
    ∷ (section_in SwitchEntries every_kind, 1 ∷ 2 ∷ 3 ∷ 4 ∷ [])
    ∷ (section_in LookupFirsts every_kind, 0x10 ∷ 0x20 ∷ [])
    ∷ (section_in LookupDefaults every_kind, 0x9a ∷ 0x99 ∷ [])
    ∷ (section_in LookupEnds every_kind, 0 ∷ 2 ∷ [])
    ∷ (section_in LookupEntries every_kind, 1 ∷ 0xff ∷ [])
    ∷ (told_names (names_in worked), [])
    ∷ (told_names (names_in every_kind), 1 ∷ 3 ∷ 97 ∷ 98 ∷ 99 ∷ 2 ∷ 0 ∷ [])
    -- no line, no last line feed, an empty line, a carriage return, an upper-case digit
    ∷ (told (read_of []), refused)
    ∷ (told (read_of (take 95 worked)), refused)
    ∷ (told (read_of (worked ++ 10 ∷ [])), refused)
    ∷ (told (read_of (worked ++ digits 2 0x05 ++ 13 ∷ 10 ∷ [])), refused)
    ∷ (told (read_of (worked ++ digits 3 0x050 ++ 65 ∷ 10 ∷ [])), refused)
    -- no header, a second one, another kind, too many digits
    ∷ (told (read_of (line 18 0x01000000000000003b)), refused)
    ∷ (told (read_of (worked ++ worked)), refused)
    ∷ (told (read_of (worked ++ line 2 0x06)), refused)
    ∷ (told (read_of (worked ++ line 20 0x01000000000000003b00)), refused)
    ∷ []

pub all_hold : hold_lists rows ≡ true
unfolding rows hold_lists same digits worked every_kind told told_names value_of_digit all_digits read_on numbers Lines.before Lines.lines_of Lines.whole
    Lines.up_to Lines.count_ok Lines.line_ok rest_ok lines_ok text_ok head_in head_of read_of adds section_of names_of
all_hold = refl
