-- `girzhanok::girzhanok_start` meets its contract. Assumes nothing.
use mathlib.Core.Path.{refl}
use Rattle.vm.specs.Machine.{blank}
use Rattle.girzhanok.proofs.Serving.{start-short, start_served}
use Rattle.girzhanok.proofs.girzhanok_start.Goals as goal

pub returns-in_default : goal.returns-in_default
returns-in_default c = start-short _ _ _ _ c.in_default.ensures.cases

pub returns-in-Ok : goal.returns-in-Ok
returns-in-Ok c = start_served _ _ _ _ _ c.in-Some.ensures.cases _ c.in-Ok.ensures _ _ c.answer_front.ensures.number c.answer_front.ensures.kept

pub returns-in-Err : goal.returns-in-Err
unfolding blank
returns-in-Err c = start_served _ _ _ _ _ c.in-Some.ensures.cases _ c.in-Err.ensures _ _ c.number.ensures refl
