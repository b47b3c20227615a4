-- `names::interner::Names::intern` meets its contract. Assumes nothing.
use Rattle.std.proofs.lemmas.Result.{err_from_is_err_and}
use Rattle.vm.specs.Machine.{lend_names}
use Rattle.names.specs.Interned.{in_state}
use Rattle.names.proofs.Tests.{belong}
use Rattle.names.proofs.Interning.{intern-refused, intern-not_named, intern-told}
use Rattle.names.proofs.interner.Names.intern.Goals as goal

pub returns-in_err-check : goal.returns-in_err-check
returns-in_err-check g c =
    λ rest l. let p = err_from_is_err_and c.from_residual.result c.from_residual.ensures.1 in
    rw (p.1, p.2)
    (intern-refused (g.G.ToName.call c.args.given) (g.G.ToName.tests c.args.given) (g.met.G.ToName.after c.args.given)
    (in_state rest _) (lend_names _ _ _ l) _ (c.in_err-check.ensures rest l))

pub returns-in_err-to_name : goal.returns-in_err-to_name
returns-in_err-to_name g c =
    λ rest l. let p = err_from_is_err_and c.from_residual-in_err-to_name.result c.from_residual-in_err-to_name.ensures.1 in
    rw (p.1, p.2)
    (intern-not_named (g.G.ToName.call c.args.given) (g.G.ToName.tests c.args.given) (g.met.G.ToName.after c.args.given)
    (in_state rest _) (lend_names _ _ _ l) (c.in_ok-check.ensures rest l) _ c.in_err-to_name.ensures.tested)

pub known-requires : goal.known-requires
known-requires g c = belong _ _ _ _ c.in_ok-check.ensures

pub returns : goal.returns
returns g c =
    λ rest l. intern-told (g.G.ToName.call c.args.given) (g.G.ToName.tests c.args.given) (g.met.G.ToName.after c.args.given)
    (in_state rest _) (lend_names _ _ _ l) (c.in_ok-check.ensures rest l) c.in_ok-to_name.ensures.tested _ c.in_ok-to_name.ensures.named _
    (c.known.ensures rest l)
