-- `vm::lent::frames_ok` meets its contract. Assumes nothing.
use mathlib.Core.Path.{refl}
use Rattle.vm.specs.Machine.{frames_ok}
use Rattle.vm.proofs.lent.frames_ok.Goals as goal

pub returns : goal.returns
unfolding frames_ok
returns c = refl
