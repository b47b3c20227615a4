-- `names::to_name::SmallToName::to_name` meets its contract. Assumes nothing.
use Rattle.names.proofs.Calls.{small_refused, small_named}
use Rattle.names.proofs.to_name.SmallToName.to_name.Goals as goal

pub returns : goal.returns
returns c = record {
  tested = rw c.ok_or.ensures.value (small_refused _ _ c.new.ensures.small);
  named = rw c.ok_or.ensures.value (small_named _ _ _ _ c.new.ensures.parts);
}
