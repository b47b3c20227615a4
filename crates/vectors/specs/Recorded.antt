-- A record of a list of vectors: what its line says, and which bytes behind the line are its image and its answer. Definitions only.
use Rattle.std.specs.Prelude.{ℕ, suc, ◌≡◌, cond, List, ◌++◌, take, drop, get_or, eqb, codes}
use Rattle.text.specs.Digits.{field}
use Rattle.text.specs.Lines.{up_to}
use Rattle.vectors.specs.declared.records.Source.TheVariants.{Rust, Paper}
use Rattle.vectors.specs.declared.records.Case.{Case}
use Rattle.vectors.specs.declared.records.Record.{Record}
use Rattle.vectors.specs.declared.records.Record.TheVariants as record_of

-- `-- SOURCE IIIII OOO NAME`: the two lengths are hexadecimal
abbrev pub image_len : List ℕ → ℕ
image_len line = field 9 5 line

abbrev pub answer_len : List ℕ → ℕ
answer_len line = field 15 3 line

-- a case, by its line and the bytes behind it, and what is left of them
pub record IsCase (line behind : List ℕ) (c : Case) (left : List ℕ) : Type 0 where
  pub source : c.source ≡ cond (eqb (get_or line 3 0) 114) Rust Paper
  pub name : c.name.now ≡ drop 19 line
  pub image : c.image.now ≡ take (image_len line) behind
  pub answer : c.answer.now ≡ take (answer_len line) (drop (image_len line) behind)
  pub rest : left ≡ drop (answer_len line) (drop (image_len line) behind)

-- a record: a subject's name stands behind `== `
abbrev pub IsRecord : List ℕ → List ℕ → Record → List ℕ → Type 0
IsRecord line behind (record_of.Subject name) rest = (line ≡ codes "== " ++ name.now) × (rest ≡ behind)
IsRecord line behind (record_of.Case c) rest = (take 3 line ≡ codes "-- ") × IsCase line behind c rest

-- the first record of a list: its line is the first one
abbrev pub IsFirst : List ℕ → Record → List ℕ → Type 0
IsFirst all found rest = IsRecord (take (up_to all) all) (drop (suc (up_to all)) all) found rest
