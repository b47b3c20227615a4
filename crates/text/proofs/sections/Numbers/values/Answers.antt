-- `text::sections::Numbers::values` meets its contract. Assumes nothing.
use Rattle.std.proofs.Common.{length-drop}
use Rattle.text.proofs.sections.Numbers.values.Goals as goal

pub returns : goal.returns
returns c = rw (c.behind.ensures, length-drop)
