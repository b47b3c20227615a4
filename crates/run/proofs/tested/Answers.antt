-- `run::tested` meets its contract, test by test. Assumes nothing.
use Rattle.std.proofs.Common.{refl, sym}
use Rattle.std.proofs.lemmas.Result.{err_from_is_err_and}
use Rattle.program.proofs.Images.{refused_10}
use Rattle.vm.specs.Machine.{lend_run}
use Rattle.vm.proofs.Loading.{sized}
use Rattle.run.proofs.Entering.{image-refused, state-refused, all-pass}
use Rattle.run.proofs.tested.Goals as goal

pub returns-then-not-frames_ok-heap_ok-clause-refused : goal.returns-then-not-frames_ok-heap_ok-clause-refused
returns-then-not-frames_ok-heap_ok-clause-refused c =
    let unsized = rw (c.frames_ok.ensures, c.heap_ok.ensures) at c.if-not-frames_ok-heap_ok.true in
    λ budget l. image-refused _ _ _ (lend_run _ _ l) _ (sym (refused_10 _ _ (rw unsized refl)))

pub returns-in_err-image-clause-refused : goal.returns-in_err-image-clause-refused
returns-in_err-image-clause-refused c =
    let p = err_from_is_err_and c.from_residual.result c.from_residual.ensures.1 in
    let sizes = rw (c.frames_ok.ensures, c.heap_ok.ensures) at c.if-not-frames_ok-heap_ok.false in
    λ budget l. rw (p.1, p.2) (image-refused _ _ _ (lend_run _ _ l) _ (sized _ _ sizes (sym (rw c.in_err-image.was at c.load.ensures.refused))))

pub returns-then-not-frames_belong-sound-clause-refused : goal.returns-then-not-frames_belong-sound-clause-refused
returns-then-not-frames_belong-sound-clause-refused c =
    let sizes = rw (c.frames_ok.ensures, c.heap_ok.ensures) at c.if-not-frames_ok-heap_ok.false in
    λ budget l. state-refused _ _ _ (lend_run _ _ l) (sized _ _ sizes (sym (rw c.in_ok-image.was at c.load.ensures.refused)))
    (λ u k d f. rw (c.code-words.ensures, c.in_ok-image.ensures.image) at (c.frames_belong.ensures u k d f)) c.sound.ensures
    c.if-not-frames_belong-sound.true

pub returns-clause-refused : goal.returns-clause-refused
returns-clause-refused c =
    let sizes = rw (c.frames_ok.ensures, c.heap_ok.ensures) at c.if-not-frames_ok-heap_ok.false in
    λ budget l. all-pass _ _ _ (lend_run _ _ l) (sized _ _ sizes (sym (rw c.in_ok-image.was at c.load.ensures.refused)))
    (λ u k d f. rw (c.code-words.ensures, c.in_ok-image.ensures.image) at (c.frames_belong.ensures u k d f)) c.sound.ensures
    c.if-not-frames_belong-sound.false
