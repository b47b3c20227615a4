-- `names::interner::Names::known` meets its contract. Assumes nothing.
use Rattle.vm.specs.Machine.{lend_names}
use Rattle.names.specs.Interned.{in_state}
use Rattle.names.proofs.Interning.{told_found, told_fresh}
use Rattle.names.proofs.interner.Names.known.Goals as goal

pub returns-in-Some : goal.returns-in-Some
returns-in-Some g c =
    λ rest l. told_found (in_state rest c.args.self.now) (lend_names _ _ _ l) _ c.requires _ c.of-hashed.ensures.1 _
    (rw c.of-hashed.ensures.0 at c.get.ensures) _ c.in-Some.is

pub returns-in-None : goal.returns-in-None
returns-in-None g c =
    λ rest l. told_fresh (in_state rest c.args.self.now) (lend_names _ _ _ l) _ c.requires _ c.of-hashed.ensures.1 _
    (rw c.of-hashed.ensures.0 at c.get.ensures) c.in-None.is _ (rw c.of-hashed.ensures.0 at (c.fresh.ensures rest l))
