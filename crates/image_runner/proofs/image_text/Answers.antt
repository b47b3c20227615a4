-- `image_runner::image_text` meets its contract. Assumes nothing.
use mathlib.Core.Path.{refl, sym, ◌∙◌}
use Prim.Native.Nat.{◌*◌}
use native.Mathlib.Omega.{arith}
use lib.ListN.{length-replicate}
use Rattle.std.proofs.lemmas.Result.{err_from_is_err_and}
use Rattle.text.proofs.Numbers.{budget_small}
use Rattle.image_runner.specs.Runner.{image_text, answer_of}
use Rattle.image_runner.proofs.Limits.{Fits, fitting, words_room}
use Rattle.image_runner.proofs.Readings.{read_head, read_nothing}
use Rattle.image_runner.proofs.Parts.{zeros-part, lent_of_parts}
use Rattle.image_runner.proofs.image_text.Goals as goal
use Rattle.image_runner.proofs.image_text.Goals.{Else-not-room_for}

room : (c : Else-not-room_for) → Fits c.in_ok-head.head c.args.input.now
room c = fitting _ _ (sym c.room_for.ensures ∙ c.if-not-room_for.false)

pub returns-in_err-head : goal.returns-in_err-head
unfolding answer_of
returns-in_err-head c =
    let why = err_from_is_err_and c.from_residual.result c.from_residual.ensures.1 in
    let read = read_nothing _ _ (sym c.in_err-head.ensures) in
    rw (why.1, why.2, read.0, read.1) refl

pub returns-then-not-room_for : goal.returns-then-not-room_for
unfolding answer_of image_text
returns-then-not-room_for c =
    let read = read_head _ _ (sym c.in_ok-head.ensures) in
    rw (read.0, ← read.1, sym c.room_for.ensures ∙ c.if-not-room_for.true) refl

pub overflow_mul-heap_size : goal.overflow_mul-heap_size
overflow_mul-heap_size c = omega (arith, (room c).pages)

pub join-total-requires : goal.join-total-requires
join-total-requires c = rw length-replicate (words_room _ _ (room (goal.at.join-total-requires c).Else-not-room_for))

pub slice_bounds-frames-end : goal.slice_bounds-frames-end
slice_bounds-frames-end c = (zeros-part 4096 (room (goal.at.slice_bounds-frames-end c).Else-not-room_for).frames).inside

pub slice_bounds-rate-end-2 : goal.slice_bounds-rate-end-2
slice_bounds-rate-end-2 c = (zeros-part 4096 (room (goal.at.slice_bounds-rate-end-2 c).Else-not-room_for).frames).long

pub slice_bounds-heap-end : goal.slice_bounds-heap-end
slice_bounds-heap-end c =
    (zeros-part {n = c.in_ok-head.head.pages * 4096} 32768 (omega (arith, (room (goal.at.slice_bounds-heap-end c).Else-not-room_for).pages))).inside

pub slice_bounds-rate-end-3 : goal.slice_bounds-rate-end-3
slice_bounds-rate-end-3 c =
    (zeros-part {n = c.in_ok-head.head.pages * 4096} 32768 (omega (arith, (room (goal.at.slice_bounds-rate-end-3 c).Else-not-room_for).pages))).long

pub slice_bounds-slots-end : goal.slice_bounds-slots-end
slice_bounds-slots-end c = (zeros-part 4096 (room (goal.at.slice_bounds-slots-end c).Else-not-room_for).slots).inside

pub slice_bounds-rate-end-4 : goal.slice_bounds-rate-end-4
slice_bounds-rate-end-4 c = (zeros-part 4096 (room (goal.at.slice_bounds-rate-end-4 c).Else-not-room_for).slots).long

pub slice_bounds-spare-end : goal.slice_bounds-spare-end
slice_bounds-spare-end c = (zeros-part 4096 (room (goal.at.slice_bounds-spare-end c).Else-not-room_for).slots).inside

pub slice_bounds-rate-end-5 : goal.slice_bounds-rate-end-5
slice_bounds-rate-end-5 c = (zeros-part 4096 (room (goal.at.slice_bounds-rate-end-5 c).Else-not-room_for).slots).long

pub rate-requires-clause-image : goal.rate-requires-clause-image
rate-requires-clause-image c = (read_head _ _ (sym c.in_ok-head.ensures)).0

pub rate-requires-clause-budget : goal.rate-requires-clause-budget
rate-requires-clause-budget c = rw (read_head _ _ (sym c.in_ok-head.ensures)).1 (budget_small _)

pub rate-requires-clause-lent : goal.rate-requires-clause-lent
rate-requires-clause-lent c =
    let f = room (goal.at.rate-requires-clause-lent c).Else-not-room_for in
    lent_of_parts c.in_ok-head.head (zeros-part 4096 f.frames) (zeros-part {n = c.in_ok-head.head.pages * 4096} 32768 (omega (arith, f.pages)))
    (zeros-part 4096 f.slots) (zeros-part 4096 f.slots)

pub returns : goal.returns
unfolding answer_of image_text
returns c =
    let read = read_head _ _ (sym c.in_ok-head.ensures) in
    rw (read.0, ← read.1, sym c.room_for.ensures ∙ c.if-not-room_for.false) c.rate.ensures
