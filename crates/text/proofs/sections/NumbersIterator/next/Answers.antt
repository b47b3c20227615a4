-- `Iterator::next` of `text::sections::Numbers` meets its contract. Assumes nothing.
use Rattle.std.proofs.Common.{List, ℕ, length, ap, arith, rules, sym, ◌∙◌}
use Rattle.text.proofs.Entries.{left_end, left_next}
use Rattle.text.proofs.sections.NumbersIterator.next.Goals as goal

pub returns-in_err-digits-clause-steps : goal.returns-in_err-digits-clause-steps
returns-in_err-digits-clause-steps c =
    let end = left_end c.args.self.now.digits.now (sym c.take.ensures.value ∙ c.in_default.is) c.take.ensures.after c.in_err-digits.ensures.cases in
    search rules

pub returns-clause-steps : goal.returns-clause-steps
returns-clause-steps c =
    let cases = c.in_ok-digits.ensures.cases in
    let next = left_next c.args.self.now.digits.now (sym c.take.ensures.value ∙ c.in_default.is) c.take.ensures.after c.args.self.now.some_digits (cases.1, cases.2, cases.3) in
    rw c.number.ensures next

pub returns-clause-goes : goal.returns-clause-goes
returns-clause-goes c =
    let cases = c.in_ok-digits.ensures.cases in
    let next = left_next c.args.self.now.digits.now (sym c.take.ensures.value ∙ c.in_default.is) c.take.ensures.after c.args.self.now.some_digits (cases.1, cases.2, cases.3) in
    record { on = λ _. (tt, tt, omega (arith, ap (λ (x : List ℕ). length x) next)); keeps = tt; rests = search rules }
