-- `Iterator::next` of `text::lines::Lines` meets its contract. Assumes nothing.
use Rattle.std.proofs.Common.{ℕ, List, length, ap, arith, rules}
use Rattle.std.proofs.lemmas.Option.{MatchOption-at_none, MatchOption-at_some}
use Rattle.text.proofs.Splitting.{no_line, line_split}
use Rattle.text.proofs.lines.LinesIterator.next.Goals as goal

pub returns-in_err-line-clause-steps : goal.returns-in_err-line-clause-steps
returns-in_err-line-clause-steps c =
    let none = no_line c.args.self.now.0.now (MatchOption-at_none _ _ c.in_err-line.was c.split_line.ensures) in
    search rules

pub returns-clause-steps : goal.returns-clause-steps
returns-clause-steps c = line_split c.args.self.now.0.now (MatchOption-at_some _ _ _ c.in_ok-line.was c.split_line.ensures)

pub returns-clause-goes : goal.returns-clause-goes
returns-clause-goes c =
    let some = line_split c.args.self.now.0.now (MatchOption-at_some _ _ _ c.in_ok-line.was c.split_line.ensures) in
    record { on = λ _. (tt, tt, omega (arith, ap (λ (x : List (List ℕ)). length x) some)); keeps = search rules; rests = search rules }
