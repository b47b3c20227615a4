-- `string::payload::Pushed::is_string` meets its contract. Assumes nothing.
use Rattle.string.proofs.Strings.{holds_none, holds_long, holds_some}
use Rattle.string.proofs.payload.Pushed.is_string.Goals as goal

pub is-requires : goal.is-requires
is-requires g c = let there = c.in-Some.ensures in holds_long _ _ _ _ _ _ c.len.ensures.0 _ there.0 there.1

pub returns-in-Some : goal.returns-in-Some
returns-in-Some g c = let there = c.in-Some.ensures in holds_some _ _ _ _ _ _ c.len.ensures.0 _ there.0 there.1 _ c.is.ensures

pub returns-in-None : goal.returns-in-None
returns-in-None g c = holds_none _ _ _ _ _ _ c.len.ensures.0 c.in-None.ensures
