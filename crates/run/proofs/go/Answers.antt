-- `run::go` meets its contract. Assumes nothing.
use Rattle.std.proofs.Common.{refl, ◌∙◌, arith}
use Rattle.vm.specs.Machine.{Lent}
use Rattle.instruction.specs.Turn.{lend_in}
use Rattle.vm.proofs.Ends.{loaded_by}
use Rattle.run.proofs.Loops.{running_first, running_next, halted-here, stopped_here, spent-here, asks_listed, next_fits}
use Rattle.run.proofs.go.Goals as goal

pub loop-steps-init : goal.loop-steps-init
loop-steps-init c = (running_first _ _ _ _ _ c.requires.going, refl, refl)

pub bounds-code-pc : goal.bounds-code-pc
bounds-code-pc c = rw c.code-code.ensures c.loop-steps.invariant.0.here

pub apply-requires : goal.apply-requires
apply-requires c =
    let ok = loaded_by _ c.requires.passed (let h = c.loop-steps.invariant.0.here in omega arith) in
    next_fits _ ok _ _ _ _ _ _ _ _ c.loop-steps.invariant.0

pub returns-in-Halt-clause-finished : goal.returns-in-Halt-clause-finished
returns-in-Halt-clause-finished c =
    let ok = loaded_by _ c.requires.passed (let h = c.loop-steps.invariant.0.here in omega arith) in
    λ s l. halted-here _ ok _ _ _ _ _ _ _ _ c.loop-steps.invariant.0 c.loop-steps-test.true s l _
    (rw (c.word_effect-effect.ensures, c.code-code.ensures, c.in-Halt.is) at (c.apply.ensures.turned s l))

pub anomaly-why-requires : goal.anomaly-why-requires
anomaly-why-requires c =
    let ok = loaded_by _ c.requires.passed (let h = c.loop-steps.invariant.0.here in omega arith) in
    rw c.in-Stop.is at (c.apply.ensures.listed
    (rw (c.word_effect-effect.ensures, c.code-code.ensures) (asks_listed _ ok _ _ _ _ _ _ _ _ c.loop-steps.invariant.0)))

pub returns-in-Stop-clause-finished : goal.returns-in-Stop-clause-finished
returns-in-Stop-clause-finished c =
    let ok = loaded_by _ c.requires.passed (let h = c.loop-steps.invariant.0.here in omega arith) in
    λ s l. rw c.anomaly-why.ensures (stopped_here _ ok _ _ _ _ _ _ _ _ c.loop-steps.invariant.0 c.loop-steps-test.true s l _ _
    (rw (c.word_effect-effect.ensures, c.code-code.ensures, c.in-Stop.is) at (c.apply.ensures.turned s l)))

pub unreachable-requires : goal.unreachable-requires
unreachable-requires c =
    let ok = loaded_by _ c.requires.passed (let h = c.loop-steps.invariant.0.here in omega arith) in
    rw c.in-Unlisted.is at (c.apply.ensures.listed
    (rw (c.word_effect-effect.ensures, c.code-code.ensures) (asks_listed _ ok _ _ _ _ _ _ _ _ c.loop-steps.invariant.0)))

pub loop-steps-preserved : goal.loop-steps-preserved
loop-steps-preserved c =
    let ok = loaded_by _ c.requires.passed (let h = c.loop-steps.invariant.0.here in omega arith) in (
      running_next _ ok _ _ _ _ _ _ _ _ c.loop-steps.invariant.0 c.loop-steps-test.true _ _
          (λ (l : Lent). lend_in c.apply.new.frames c.apply.new.heap l)
          (λ s l. rw (c.word_effect-effect.ensures, c.code-code.ensures, c.in-Next.is) at (c.apply.ensures.turned s l)),
      c.apply.ensures.same_frames ∙ c.loop-steps.invariant.1,
      c.apply.ensures.same_heap ∙ c.loop-steps.invariant.2,
    )

pub returns-clause-finished : goal.returns-clause-finished
returns-clause-finished c =
    let ok = loaded_by _ c.requires.passed (let h = c.loop-steps.invariant.0.here in omega arith) in
    λ s l. spent-here _ ok _ _ _ _ _ _ _ _ c.loop-steps.invariant.0 c.loop-steps-test.false (omega arith) s l
