-- `image_names::intern_names` meets its contract. Assumes nothing.
use mathlib.Core.Path.{refl}
use native.Mathlib.Omega.{arith}
use Rattle.std.proofs.lemmas.Result.{err_from_is_err_and}
use Rattle.vm.specs.Machine.{Lent, lend_names}
use Rattle.vm.specs.Told.{machine_of}
use Rattle.image_names.proofs.Interning.{interning_first, interning_next, interned_all, interned_some, bytes_back}
use Rattle.image_names.proofs.intern_names.Goals as goal

pub loop-named-init : goal.loop-named-init
loop-named-init c =
    (tt, tt, rw (c.into_iter-named-iterator.ensures.into_iter_gives, c.of-named-items.ensures) (interning_first _ _ _), refl, refl, refl, refl)

pub returns-in_err-globals : goal.returns-in_err-globals
returns-in_err-globals c =
    let inv = c.loop-named.invariant in
    let p = err_from_is_err_and c.from_residual.result c.from_residual.ensures.1 in
    rw (p.1, p.2)
    (interned_some inv.2 c.in-Some.ensures.steps
    (bytes_back inv.2 c.in-Some.ensures.steps c.requires.0 _ (omega arith) c.put_bytes-len.ensures.0 c.put_bytes-len.ensures.1) _
    (λ (l : Lent). machine_of c.intern.new.state (lend_names _ _ _ l)) c.in_err-globals.ensures)

pub loop-named-preserved : goal.loop-named-preserved
loop-named-preserved c =
    let inv = c.loop-named.invariant in
    let back = bytes_back inv.2 c.in-Some.ensures.steps c.requires.0 _ (omega arith) c.put_bytes-len.ensures.0 c.put_bytes-len.ensures.1 in
    (tt, tt, interning_next inv.2 c.in-Some.ensures.steps back _ _ c.in_ok-globals.ensures, cc, cc, cc, cc)

pub returns : goal.returns
returns c = interned_all c.loop-named.invariant.2 c.in-None.ensures.steps.0
