-- `program::image::starts_at` meets its contract. Assumes nothing.
use Rattle.program.proofs.Entries.{first_start, later_start}
use Rattle.program.proofs.image.starts_at.Goals as goal

pub returns-then-table-eq0 : goal.returns-then-table-eq0
returns-then-table-eq0 c = first_start _ _ c.if-table-eq0.true

pub returns-else-table-eq0 : goal.returns-else-table-eq0
returns-else-table-eq0 c = later_start _ _ c.if-table-eq0.false
