-- `rest` meets its contract: by the opcode, or by a run of opcodes that are answered alike. Assumes nothing.
use Rattle.std.proofs.Common.{◌%◌, arith}
use Rattle.op.specs.Layout.{parts_of}
use Rattle.op.specs.Decode.{rows}
use Rattle.op.specs.Masks.{rest_of}
use Rattle.op.proofs.Checks.{jump_rest, function_rest, no_rest_below, no_rest_above}
use Rattle.op.proofs.checker.rest.Goals as goal

pub returns-in-29-to-35 : goal.returns-in-29-to-35
unfolding rows rest_of
returns-in-29-to-35 c = rw (c.inside-in-29-to-35.ensures, c.bytes-in-29-to-35.ensures) (jump_rest (c.args.w % 256) c.args.n (parts_of c.args.w) (omega arith) (omega arith))

pub returns-in-38-to-39 : goal.returns-in-38-to-39
unfolding rows rest_of
returns-in-38-to-39 c =
    rw (c.inside-in-38-to-39.ensures, c.bytes-in-38-to-39.ensures) (function_rest (c.args.w % 256) c.args.n (parts_of c.args.w) (omega arith) (omega arith))

pub returns-in_default : goal.returns-in_default
unfolding rows rest_of
returns-in_default c = no_rest_below (c.args.w % 256) c.args.n (parts_of c.args.w) (omega arith)

pub returns-in_default-2 : goal.returns-in_default-2
unfolding rows rest_of
returns-in_default-2 c = no_rest_above (c.args.w % 256) c.args.n (parts_of c.args.w) (omega arith) (λ e. omega arith)
