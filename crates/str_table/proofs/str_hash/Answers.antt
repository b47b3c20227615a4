-- `str_table::str_hash` meets its contract. Assumes nothing.
use mathlib.Core.Path.{◌∙◌}
use native.Mathlib.Omega.{arith}
use lib.ListN.{length}
use Rattle.string.proofs.Strings.{Within, header_found}
use Rattle.str_table.proofs.Moves.{hash_read, hash_absent}
use Rattle.str_table.proofs.str_hash.Goals as goal
use Rattle.str_table.proofs.str_hash.Goals.{Else-not-has_header}

-- what the test of the header says of all that comes after it
abbrev Header : Else-not-has_header → Type 0
Header c = let heap = c.args.heap in Within heap.base (length heap.bytes.now) c.args.v 8

header : (c : Else-not-has_header) → Header c
header c = header_found _ _ _ _ (rw (c.extent.ensures.0, c.extent.ensures.1) at c.has_header.ensures) c.if-not-has_header.false

pub returns-then-not-has_header : goal.returns-then-not-has_header
returns-then-not-has_header c = hash_absent _ _ _ _ (rw (c.extent.ensures.0, c.extent.ensures.1) at c.has_header.ensures) c.if-not-has_header.true

pub overflow_sub-at : goal.overflow_sub-at
overflow_sub-at c = omega (arith, header (goal.at.overflow_sub-at c).Else-not-has_header)

pub overflow_add-at : goal.overflow_add-at
overflow_add-at c = omega (arith, header (goal.at.overflow_add-at c).Else-not-has_header)

pub load-requires-clause-room : goal.load-requires-clause-room
load-requires-clause-room c = omega (arith, header (goal.at.load-requires-clause-room c).Else-not-has_header)

pub returns : goal.returns
returns c = c.load.ensures.value ∙ hash_read _ _ _ _ (rw (c.extent.ensures.0, c.extent.ensures.1) at c.has_header.ensures) c.if-not-has_header.false
