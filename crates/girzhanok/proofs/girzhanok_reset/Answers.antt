-- `girzhanok::girzhanok_reset` meets its contract. Assumes nothing.
use Rattle.girzhanok.proofs.Serving.{too_short, served, quiet}
use Rattle.girzhanok.proofs.girzhanok_reset.Goals as goal

pub returns-in_default : goal.returns-in_default
returns-in_default c = λ l. too_short _ _ _ _ c.in_default.ensures.cases

pub returns : goal.returns
returns c =
    λ l.
    let told = c.reset-called.ensures l in
    served _ _ _ _ _ c.in-Some.ensures.cases _ c.unpack-machine.ensures _ told _ _ _ c.answer_front.ensures.number c.answer_front.ensures.kept (quiet _ _ _ told)
