-- `girzhanok::girzhanok_intern` meets its contract. Assumes nothing.
use mathlib.Core.Path.{refl}
use Rattle.answers.specs.Words.{unpacked}
use Rattle.girzhanok.proofs.Serving.{too_short, served}
use Rattle.girzhanok.proofs.girzhanok_intern.Goals as goal

pub returns-in_default : goal.returns-in_default
returns-in_default c = λ l. too_short _ _ _ _ c.in_default.ensures.cases

pub returns : goal.returns
returns c =
    λ l.
    let told = c.answer_value_front.ensures in
    let state = unpacked c.in-Some.words.now in
    served _ _ _ _ _ c.in-Some.ensures.cases state refl _ (rw c.unpack_names-names.ensures at (c.intern-called.ensures state l)) _ _ _
    told.number told.kept told.answered
