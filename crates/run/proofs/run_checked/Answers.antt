-- `run::run_checked` meets its contract. Assumes nothing.
use Rattle.std.proofs.Common.{length, List, ℕ, sym, ap, ◌∙◌, arith, eqb-true, rules}
use borrow.Author.Tests.{eqb-false}
use Rattle.vm.specs.Machine.{lend_run, unlent, with_regs}
use Rattle.vm.specs.Told.{answer_of}
use Rattle.run.proofs.Entering.{root_is, frame_there, answer_is, image-passed, run_empty, run_past, run-goes, going}
use Rattle.run.proofs.run_checked.Goals as goal

pub returns-then-is_empty : goal.returns-then-is_empty
unfolding answer_of
returns-then-is_empty c =
    let none = eqb-true _ 0 (sym c.is_empty.ensures ∙ c.if-is_empty.true) in
    λ l. rw c.idle.ensures (run_empty _ _ _ (lend_run _ _ l) (c.requires l) (rw c.code-code.ensures at none))

pub bounds-frames-0 : goal.bounds-frames-0
bounds-frames-0 c = frame_there _ _ _ (lend_run _ _ unlent) (c.requires unlent)

pub returns-then-code-state : goal.returns-then-code-state
unfolding answer_of
returns-then-code-state c =
    let words = ap (λ (ws : List ℕ). length ws) c.code-code.ensures in
    let some = eqb-false _ 0 (sym c.is_empty.ensures ∙ c.if-is_empty.false) in
    λ l. rw c.idle-then-code-state.ensures
    (run_past _ _ _ (lend_run _ _ l) (c.requires l) (root_is _ _ words) (omega (arith, words, some)) (omega (arith, words, c.if-code-state.true)))

pub invariant_of-frames : goal.invariant_of-frames
invariant_of-frames c =
    let words = ap (λ (ws : List ℕ). length ws) c.code-code.ensures in
    record {
      deep = (going _ _ _ (lend_run _ _ unlent) (c.requires unlent) (root_is _ _ words)
          (omega (arith, words, c.if-code-state.false))).fitting.deep;
    }

pub invariant_of-heap : goal.invariant_of-heap
invariant_of-heap c =
    let words = ap (λ (ws : List ℕ). length ws) c.code-code.ensures in
    record {
      belongs = (going _ _ _ (lend_run _ _ unlent) (c.requires unlent) (root_is _ _ words)
          (omega (arith, words, c.if-code-state.false))).fitting.sound;
    }

pub go-end-requires-clause-passed : goal.go-end-requires-clause-passed
go-end-requires-clause-passed c = image-passed _ _ _ (lend_run _ _ unlent) (c.requires unlent)

pub go-end-requires-clause-going : goal.go-end-requires-clause-going
go-end-requires-clause-going c =
    let words = ap (λ (ws : List ℕ). length ws) c.code-code.ensures in
    λ l. going _ _ _ (lend_run _ _ l) (c.requires l) (root_is _ _ words) (omega (arith, words, c.if-code-state.false))

pub returns : goal.returns
unfolding with_regs
returns c =
    let words = ap (λ (ws : List ℕ). length ws) c.code-code.ensures in
    λ l.
    let ran =
    run-goes _ _ _ (lend_run c.args.frames.now c.args.heap.now l) (c.requires l) (root_is _ _ words)
    (omega (arith, words, c.if-code-state.false)) _ (c.go-end.ensures.finished c.args.state.now l)
    in
    rw (answer_is, c.store_pc.ensures) (search (rules, ran))
