-- `text::names::Names::of` meets its contract. Assumes nothing.
use Rattle.std.proofs.Common.{arith}
use Rattle.text.proofs.Sizes.{lines-few}
use Rattle.text.proofs.names.Names.of.Goals as goal

pub invariant_of-result : goal.invariant_of-result
invariant_of-result c = record { few = omega (arith, lines-few c.args.s.now) }
