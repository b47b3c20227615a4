-- `Iterator::next` of `text::names::Names` meets its contract. Assumes nothing.
use Rattle.std.proofs.Common.{List, length, ap, arith, rules, refl, sym, ◌∙◌}
use Rattle.text.specs.Names.{Name, names_of}
use Rattle.text.proofs.Naming.{names_here, names_later, fewer}
use Rattle.text.proofs.names.NamesIterator.next.Goals as goal

pub overflow_add-self : goal.overflow_add-self
overflow_add-self c =
    omega (arith, fewer c.in-Some.ensures.steps c.loop-line.self.globals _ c.globals_on.ensures _ refl c.loop-line.self.few)

pub invariant_of-self : goal.invariant_of-self
invariant_of-self c =
    record { few = fewer c.in-Some.ensures.steps c.loop-line.self.globals _ c.globals_on.ensures _ refl c.loop-line.self.few }

pub returns-then-has_kind-clause-steps : goal.returns-then-has_kind-clause-steps
returns-then-has_kind-clause-steps c =
    let here = names_here c.in-Some.ensures.steps c.loop-line.self.globals _ c.globals_on.ensures _ c.has_kind.ensures c.if-has_kind.true in
    rw c.payload_of.ensures (sym c.loop-line.invariant ∙ here)

pub returns-then-has_kind-clause-goes : goal.returns-then-has_kind-clause-goes
returns-then-has_kind-clause-goes c =
    let here = names_here c.in-Some.ensures.steps c.loop-line.self.globals _ c.globals_on.ensures _ c.has_kind.ensures c.if-has_kind.true in
    record { on = λ _. (tt, tt, omega (arith, ap (λ (x : List Name). length x) (sym c.loop-line.invariant ∙ here))); keeps = tt; rests = search rules }

pub loop-line-preserved : goal.loop-line-preserved
loop-line-preserved c =
    let later = names_later c.in-Some.ensures.steps c.loop-line.self.globals _ c.globals_on.ensures _ c.has_kind.ensures c.if-has_kind.false in
    sym later ∙ c.loop-line.invariant

pub returns-clause-steps : goal.returns-clause-steps
unfolding names_of
returns-clause-steps c = (sym c.loop-line.invariant ∙ rw c.in_default.ensures.steps.0, rw c.in_default.ensures.steps.1)
