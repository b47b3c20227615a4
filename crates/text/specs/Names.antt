-- Document 01, 'Instruction and image': '`05`: string bytes, interned, its value the next global.' Definitions only.
use Rattle.std.specs.Prelude.{ℕ, ◌+◌, ◌/◌, cond, List, [], ◌∷◌, ◌++◌, length, eqb}
use Rattle.text.specs.Digits.{numbers}
use Rattle.text.specs.Lines.{lines_in, kind_of, payload_of}
use Rattle.text.specs.Sections.{adds}
use Rattle.text.specs.declared.sections.Section.TheVariants.{Globals}

-- two digits a byte
abbrev pub bytes_in : List ℕ → List ℕ
bytes_in p = numbers 2 (length p / 2) p

-- a name, and the index of its global
pub record Name : Type 0 where
  pub global : ℕ
  pub bytes : List ℕ

abbrev pub named : ℕ → List ℕ → Name
named global bytes = record { global = global; bytes = bytes }

-- the names among lines that so many globals stand before: those of the lines `02` and `05` alike
unfoldable pub names_of : ℕ → List (List ℕ) → List Name
names_of globals [] = []
names_of globals (l ∷ more) =
    cond (eqb (kind_of l) 5) (named globals (bytes_in (payload_of l)) ∷ []) []
    ++ names_of (globals + length (adds Globals 0 0 (kind_of l) (payload_of l))) more

-- the names of a text, in line order
abbrev pub names_in : List ℕ → List Name
names_in s = names_of 0 (lines_in s)
