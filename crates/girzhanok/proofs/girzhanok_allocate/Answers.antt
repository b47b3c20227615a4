-- `girzhanok::girzhanok_allocate` meets its contract. Assumes nothing.
use Rattle.girzhanok.proofs.Serving.{too_short, served}
use Rattle.girzhanok.proofs.girzhanok_allocate.Goals as goal

pub returns-in_default : goal.returns-in_default
returns-in_default c = λ l. too_short _ _ _ _ c.in_default.ensures.cases

pub returns : goal.returns
returns c =
    λ l.
    let told = c.answer_value_front.ensures in
    served _ _ _ _ _ c.in-Some.ensures.cases _ c.unpack-machine.ensures _ (c.allocate-called.ensures l) _ _ _ told.number told.kept told.answered
