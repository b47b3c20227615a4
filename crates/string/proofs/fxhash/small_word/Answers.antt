-- `string::fxhash::small_word` meets its contract. Assumes nothing.
use Rattle.memory.specs.Bytes.{value_of}
use Rattle.string.proofs.Small.{whole}
use Rattle.string.proofs.fxhash.small_word.Goals as goal

pub returns-in-0 : goal.returns-in-0
unfolding value_of
returns-in-0 c = whole 0 c.args.bytes.now c.in-0.is
