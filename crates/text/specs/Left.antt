-- What the iterators of this crate have left. Definitions only.
use Rattle.std.specs.Prelude.{ℕ, ◌/◌, List, ◌++◌, length, option_to_list}
use Rattle.text.specs.Digits.{numbers}
use Rattle.text.specs.Lines.{lines_in}
use Rattle.text.specs.Names.{Name, named, bytes_in, names_of}
use Rattle.text.specs.declared.names.Named.{Named}
use Rattle.text.specs.declared.names.Names.{Names}
use Rattle.text.specs.declared.sections.Numbers.{Numbers}

-- a name as it is answered
abbrev pub name_of : Named → Name
name_of n = named n.global (bytes_in n.digits.now)

abbrev pub names_left : Names → List Name
names_left n = names_of n.globals (lines_in n.lines.0.now)

abbrev pub numbers_left : Numbers → List ℕ
numbers_left n = option_to_list n.one ++ numbers n.width (length n.digits.now / n.width) n.digits.now
