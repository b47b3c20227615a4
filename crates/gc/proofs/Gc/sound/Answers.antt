-- `gc::Gc::sound` meets its contract. Assumes nothing.
use Rattle.gc.proofs.Soundness.{no_page, by_end}
use Rattle.gc.proofs.Gc.sound.Goals as goal

pub returns-then-self : goal.returns-then-self
returns-then-self c = no_page _ _ c.if-self.true

pub returns : goal.returns
returns c = by_end _ _ c.if-self.false
