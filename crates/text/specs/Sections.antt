-- Document 01, 'Instruction and image': what the lines of an image hold, section by section, in line order. Definitions only.
use Rattle.std.specs.Prelude.{ℕ, ◌+◌, ◌-◌, ◌/◌, cond, List, [], ◌∷◌, ◌++◌, length, drop, eqb}
use Rattle.text.specs.Digits.{field, numbers}
use Rattle.text.specs.Lines.{lines_in, kind_of, payload_of}
use Rattle.text.specs.declared.sections.Section.{Section}
use Rattle.text.specs.declared.sections.Section.TheVariants.{Code, Globals, SwitchFirsts, SwitchEnds, SwitchEntries, LookupFirsts}
use Rattle.text.specs.declared.sections.Section.TheVariants.{LookupDefaults, LookupEnds, LookupEntries}

-- numbers that only a line of a kind gives
abbrev pub of_kind : ℕ → ℕ → List ℕ → List ℕ
of_kind kind k xs = cond (eqb k kind) xs []

-- `03`: 'first, then 4-digit targets'
abbrev pub targets_in : List ℕ → List ℕ
targets_in p = numbers 4 ((length p - 16) / 4) (drop 16 p)

-- `04`: 'first, default, values'
abbrev pub values_in : List ℕ → List ℕ
values_in p = numbers 16 ((length p - 32) / 16) (drop 32 p)

-- what a line of kind k with the payload p adds to a section, where the tables so far, with its own, have so many targets and so many values.
-- A global is that of a line `02`, or of a name, `05`, which is 0 until it is interned
unfoldable pub adds : Section → ℕ → ℕ → ℕ → List ℕ → List ℕ
adds Code targets values k p = of_kind 1 k (field 0 16 p ∷ [])
adds Globals targets values k p = of_kind 2 k (field 0 16 p ∷ []) ++ of_kind 5 k (0 ∷ [])
adds SwitchFirsts targets values k p = of_kind 3 k (field 0 16 p ∷ [])
adds SwitchEnds targets values k p = of_kind 3 k (targets ∷ [])
adds SwitchEntries targets values k p = of_kind 3 k (targets_in p)
adds LookupFirsts targets values k p = of_kind 4 k (field 0 16 p ∷ [])
adds LookupDefaults targets values k p = of_kind 4 k (field 16 16 p ∷ [])
adds LookupEnds targets values k p = of_kind 4 k (values ∷ [])
adds LookupEntries targets values k p = of_kind 4 k (values_in p)

-- how many targets and values the tables have with a line's
abbrev pub targets_with : ℕ → ℕ → List ℕ → ℕ
targets_with n k p = n + length (of_kind 3 k (targets_in p))

abbrev pub values_with : ℕ → ℕ → List ℕ → ℕ
values_with n k p = n + length (of_kind 4 k (values_in p))

-- a section of the lines behind tables of so many targets and so many values
unfoldable pub section_of : Section → ℕ → ℕ → List (List ℕ) → List ℕ
section_of section targets values [] = []
section_of section targets values (l ∷ more) =
    let t = targets_with targets (kind_of l) (payload_of l) in
    let v = values_with values (kind_of l) (payload_of l) in
    adds section t v (kind_of l) (payload_of l) ++ section_of section t v more

-- the whole section of a text
abbrev pub section_in : Section → List ℕ → List ℕ
section_in section s = section_of section 0 0 (lines_in s)
