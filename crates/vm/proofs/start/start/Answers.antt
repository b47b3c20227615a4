-- `vm::start::start` meets its contract. Assumes nothing.
use mathlib.Core.Path.{refl, sym}
use Rattle.std.proofs.lemmas.Result.{err_from_is_err_and}
use Rattle.program.proofs.Images.{refused_10}
use Rattle.vm.specs.Machine.{Lent}
use Rattle.vm.specs.Told.{lent_of}
use Rattle.vm.proofs.Loading.{sized, start-refused, start-begun, start_room}
use Rattle.vm.proofs.start.start.Goals as goal
use Rattle.vm.proofs.start.start.Goals.{Start}

abbrev lent-to : Start → Lent
lent-to start = lent_of start.args.frames.now start.args.heap.now start.args.slots.now start.args.spare.now

pub returns-then-not-sizes : goal.returns-then-not-sizes
returns-then-not-sizes c =
    let unsized = rw (c.frames_ok.ensures, c.heap_ok.ensures, c.slots_ok.ensures) at c.if-not-sizes.true in
    start-refused _ _ (lent-to (goal.at.returns-then-not-sizes c).Start) _ _ _ (sym (refused_10 _ _ (rw unsized refl))) refl refl

pub returns-in_err-load : goal.returns-in_err-load
returns-in_err-load c =
    let p = err_from_is_err_and c.from_residual.result c.from_residual.ensures.1 in
    let sizes = rw (c.frames_ok.ensures, c.heap_ok.ensures, c.slots_ok.ensures) at c.if-not-sizes.false in
    rw (p.1, p.2) (start-refused _ _ (lent-to (goal.at.returns-in_err-load c).Start) _ _ _
    (sized _ _ sizes (sym c.in_err-load.ensures.refused)) refl refl)

pub begin-requires : goal.begin-requires
begin-requires c =
    let sizes = rw (c.frames_ok.ensures, c.heap_ok.ensures, c.slots_ok.ensures) at c.if-not-sizes.false in
    start_room _ _ (lent-to (goal.at.begin-requires c).Start) (sized _ _ sizes (sym c.in_ok-load.ensures.refused))

pub returns : goal.returns
returns c =
    let sizes = rw (c.frames_ok.ensures, c.heap_ok.ensures, c.slots_ok.ensures) at c.if-not-sizes.false in
    start-begun _ _ (lent-to (goal.at.returns c).Start) (sized _ _ sizes (sym c.in_ok-load.ensures.refused)) _
    (c.begin.ensures (lent-to (goal.at.returns c).Start))
