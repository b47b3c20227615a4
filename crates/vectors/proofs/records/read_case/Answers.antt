-- `vectors::records::read_case` meets its contract. Assumes nothing.
use Rattle.std.proofs.Common.{◌-◌, rules, arith, length, drop}
use Rattle.std.proofs.lemmas.List.{take_all, length-drop}
use Rattle.vectors.proofs.records.read_case.Goals as goal
use Rattle.vectors.proofs.records.read_case.Goals.{then-line-eq114, else-line-eq114}

pub returns-clause-case : goal.returns-clause-case
returns-clause-case c = record {
  source = elim c.if-line-eq114.branch [ then-line-eq114 w ↦ search rules | else-line-eq114 w ↦ search rules ];
  name = take_all (length c.args.line.now - 19) (drop 19 c.args.line.now) (rw length-drop (omega arith));
  image = rw (← c.in_ok-image_len.ensures) c.in_ok-image.ensures.cases.1;
  answer = rw (← c.in_ok-image_len.ensures, ← c.in_ok-answer_len.ensures, ← c.in_ok-image.ensures.cases.2) c.in_ok-answer.ensures.cases.1;
  rest = rw (← c.in_ok-image_len.ensures, ← c.in_ok-answer_len.ensures, ← c.in_ok-image.ensures.cases.2) c.in_ok-answer.ensures.cases.2;
}
