-- `mask` meets its contract: the table has the mask of each row. Assumes nothing.
use Rattle.std.proofs.Common.{sym, ap}
use Rattle.op.specs.Decode.{rows}
use Rattle.op.specs.Masks.{mask_of_row}
use Rattle.op.proofs.Rows.{each, absent_above}
use Rattle.op.proofs.checker.mask.Goals as goal

pub returns-then-opcode-lt-OPCODES : goal.returns-then-opcode-lt-OPCODES
unfolding rows mask_of_row
returns-then-opcode-lt-OPCODES c = each mask_of_row 0 c.args.opcode c.if-opcode-lt-OPCODES.true

pub returns-else-opcode-lt-OPCODES : goal.returns-else-opcode-lt-OPCODES
unfolding rows mask_of_row
returns-else-opcode-lt-OPCODES c = sym (ap mask_of_row (absent_above c.args.opcode c.if-opcode-lt-OPCODES.false))
