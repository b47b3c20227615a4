-- `rating::rate` meets its contract. Assumes nothing.
use mathlib.Core.Path.{refl, ◌∙◌}
use native.Mathlib.Omega.{arith}
use Rattle.std.proofs.lemmas.Result.{err_from_is_err_and}
use Rattle.vm.specs.Machine.{lend_frames, lend_slots, lend_spare, unlent}
use Rattle.outcome.specs.Outcome.{run_text}
use Rattle.image_words.proofs.Joins.{words_ordered, globals_of, image_with_lem}
use Rattle.rating.proofs.Answers.{begun_as, started-refused, names-refused, names-ran, text_short}
use Rattle.rating.proofs.rate.Goals as goal

pub returns-in_err-state : goal.returns-in_err-state
returns-in_err-state c =
    let why = err_from_is_err_and c.from_residual.result c.from_residual.ensures.1 in
    rw (why.1, why.2) (started-refused _ _ _ _ _ _ _ (begun_as _ _ _ _ _ _ c.requires.words c.requires.lent c.in_err-state.ensures))

pub bounds-words-0 : goal.bounds-words-0
bounds-words-0 c = omega (arith, words_ordered _ c.requires.words)

pub bounds-words-1 : goal.bounds-words-1
bounds-words-1 c = omega (arith, words_ordered _ c.requires.words)

pub offset_bounds-words-first : goal.offset_bounds-words-first
offset_bounds-words-first c = record { fits = omega (arith, words_ordered _ c.requires.words) }

pub slice_bounds-globals-count : goal.slice_bounds-globals-count
slice_bounds-globals-count c = omega (arith, words_ordered _ c.requires.words)

pub slice_bounds-globals-start : goal.slice_bounds-globals-start
slice_bounds-globals-start c = omega (arith, words_ordered _ c.requires.words)

pub slice_bounds-globals-end : goal.slice_bounds-globals-end
slice_bounds-globals-end c = omega (arith, words_ordered _ c.requires.words)

pub intern_names-requires : goal.intern_names-requires
intern_names-requires c = (text_short _ c.requires.image, rw (globals_of _ c.requires.words) (omega arith), c.requires.name_room)

pub returns-in_err-intern_names : goal.returns-in_err-intern_names
returns-in_err-intern_names c =
    let why = err_from_is_err_and c.from_residual-in_err-intern_names.result c.from_residual-in_err-intern_names.ensures.1 in
    rw (why.1, why.2)
    (names-refused _ _ _ _ _ _ (begun_as _ _ _ _ _ _ c.requires.words c.requires.lent c.in_ok-state.ensures) _ (globals_of _ c.requires.words) _ _ _
    (c.in_err-intern_names.ensures (lend_frames _ unlent)) _ refl)

pub returns-in_err-end : goal.returns-in_err-end
unfolding run_text
returns-in_err-end c =
    let why = err_from_is_err_and c.from_residual-in_err-end.result c.from_residual-in_err-end.ensures.1 in
    rw (why.1, why.2)
    (names-ran _ _ _ _ _ _ (begun_as _ _ _ _ _ _ c.requires.words c.requires.lent c.in_ok-state.ensures) _ (globals_of _ c.requires.words) _ _ _
    (c.in_ok-intern_names.ensures (lend_frames _ unlent)) refl
    _ (image_with_lem _ c.requires.words _ c.intern_names.auto.globals) _ refl _
    (rw c.in_err-end.was at (c.run.ensures (lend_slots c.intern_names.new.slots (lend_spare c.intern_names.new.spare unlent)))))

pub returns : goal.returns
returns c =
    c.run_text.ensures
    ∙ names-ran _ _ _ _ _ _ (begun_as _ _ _ _ _ _ c.requires.words c.requires.lent c.in_ok-state.ensures) _ (globals_of _ c.requires.words) _ _ _
    (c.in_ok-intern_names.ensures (lend_frames _ unlent)) refl
    _ (image_with_lem _ c.requires.words _ c.intern_names.auto.globals) _ refl _
    (rw c.in_ok-end.was at (c.run.ensures (lend_slots c.intern_names.new.slots (lend_spare c.intern_names.new.spare unlent))))
