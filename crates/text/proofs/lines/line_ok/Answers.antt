-- `text::lines::line_ok` meets its contract. Assumes nothing.
use Rattle.std.proofs.Common.{◌≡◌, ℕ, ◌-◌, length, rules, ap, ◌∙◌}
use Rattle.std.proofs.lemmas.Option.{MatchOption-at_none}
use Rattle.text.specs.Kinds.{number_of_kind}
use Rattle.text.specs.Lines.{kind_of, count_ok}
use Rattle.text.proofs.Splitting.{line_unknown, line_by, line_short}
use Rattle.text.proofs.lines.line_ok.Goals as goal
use Rattle.text.proofs.lines.line_ok.Goals.{then-line-ge2, else-line-ge2}

pub returns-in_default : goal.returns-in_default
returns-in_default c = line_unknown c.args.line.now (MatchOption-at_none _ (λ k. number_of_kind k ≡ kind_of c.args.line.now) c.in_default.is c.kind_of.ensures)

pub returns-then-all_digits : goal.returns-then-all_digits
returns-then-all_digits c = elim c.if-line-ge2.branch [
  | then-line-ge2 w ↦ line_by c.args.line.now w.if-line-ge2.true _ w.all_digits.ensures _
      (λ y. c.takes.ensures ∙ ap (λ (k : ℕ). count_ok k (length c.args.line.now - 2)) c.in-Some.ensures) (λ n. cc)
  | else-line-ge2 w ↦ absurd (search rules)
]

pub returns-else-all_digits : goal.returns-else-all_digits
returns-else-all_digits c = elim c.if-line-ge2.branch [
  | then-line-ge2 w ↦ line_by c.args.line.now w.if-line-ge2.true _ w.all_digits.ensures _ (λ y. cc) (λ n. c.if-all_digits.false)
  | else-line-ge2 w ↦ c.if-all_digits.false ∙ line_short c.args.line.now w.if-line-ge2.false
]
