-- `string::payload::Extent::has_header` meets its contract. Assumes nothing.
use Rattle.string.proofs.Strings.{outside, reaches-is}
use Rattle.string.proofs.payload.Extent.has_header.Goals as goal

pub returns-then-v-self : goal.returns-then-v-self
returns-then-v-self c = outside _ _ _ c.then-v-self.either

pub returns : goal.returns
returns c = reaches-is _ _ _ 8 c.if-v-self.false c.if-self-lt-HEADER_SIZE.false
