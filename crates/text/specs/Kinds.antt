-- Document 01, 'Instruction and image': the kinds of lines, by the numbers of their two digits. Definitions only.
use Rattle.std.specs.Prelude.{ℕ, ◌≡◌, ◌<◌, Result, Ok, Err}
use Rattle.text.specs.declared.lines.Kind.{Kind}
use Rattle.text.specs.declared.lines.Kind.TheVariants.{Header, Word, Global, Switch, Lookup, Name}
use Rattle.text.specs.declared.lines.UnknownKind.{UnknownKind}

-- `00` to `05`
abbrev pub number_of_kind : Kind → ℕ
number_of_kind Header = 0
number_of_kind Word = 1
number_of_kind Global = 2
number_of_kind Switch = 3
number_of_kind Lookup = 4
number_of_kind Name = 5

-- what becomes of a number: its kind, or none if it is another
abbrev pub OfNumber : ℕ → Result Kind UnknownKind → Type 0
OfNumber n (Ok k) = number_of_kind k ≡ n
OfNumber n (Err e) = 5 < n
