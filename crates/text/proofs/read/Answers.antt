-- `text::read` meets its contract. Assumes nothing.
use Rattle.std.proofs.Common.{◌≡◌, refl, rules, sym, ◌∙◌}
use Rattle.std.proofs.lemmas.Iterator.Consumers.{YieldsList-from_first}
use Rattle.std.proofs.lemmas.Result.{err_from_is_err_and}
use Rattle.std.proofs.lemmas.Iterator.Search.{all_from_yields_List}
use Rattle.anomaly.specs.declared.Refusal.{Refusal}
use Rattle.text.specs.Lines.{lines_in}
use Rattle.text.specs.Text.{is_other}
use Rattle.text.specs.declared.lines.Lines.{Lines}
use Rattle.text.proofs.WellFormed.{too_long, no_lines, header_bad, rest_bad, not_closed, image_read}
use Rattle.text.proofs.read.Goals as goal
use Rattle.text.proofs.read.Goals.{then-s-gt-MAX_LEN-via-then-s-gt-MAX_LEN, then-s-gt-MAX_LEN-via-else-s-gt-MAX_LEN+then-not-ends_with}
use Rattle.text.proofs.read.Goals.{else-is_header-via-then-is_header+else-all, else-is_header-via-else-is_header}

pub returns-then-s-gt-MAX_LEN : goal.returns-then-s-gt-MAX_LEN
returns-then-s-gt-MAX_LEN c = elim c.then-s-gt-MAX_LEN.branch [
  | then-s-gt-MAX_LEN-via-then-s-gt-MAX_LEN w ↦ too_long c.args.s.now w.if-s-gt-MAX_LEN.true
  | then-s-gt-MAX_LEN-via-else-s-gt-MAX_LEN+then-not-ends_with w ↦ not_closed c.args.s.now (sym w.ends_with.ensures.value ∙ w.if-not-ends_with.true)
]

pub returns-in_err-first : goal.returns-in_err-first
returns-in_err-first c =
    let none = rw c.in_err-first.ensures.ok_part at c.next.ensures.steps in
    let why = err_from_is_err_and c.from_residual.result c.from_residual.ensures.1 in
    let text = rw c.in_err-first.ensures.ok_part at c.in_err-first.ensures.value in
    let is : c.in_err-first.field-0.0 ≡ Refusal.Text = cc in
    rw (why.1, why.2, is) (no_lines c.args.s.now none.0)

pub returns-then-all : goal.returns-then-all
returns-then-all c =
    let all = all_from_yields_List is_other c.all.new.self _ c.all.result c.all.ensures.ran
    (YieldsList-from_first (λ x. x.now) (λ (left : Lines). lines_in left.0.now) {s = c.next.new.self} (lines_in c.next.new.self.0.now) refl) (λ x b q k. search rules) in
    rw (c.of.ensures, c.payload_of.ensures)
    (image_read c.args.s.now c.if-s-gt-MAX_LEN.false (sym c.ends_with.ensures.value ∙ c.if-not-ends_with.false) _ _ (rw c.in_ok-first.ensures.ok_part at c.next.ensures.steps)
    (sym c.is_header.ensures ∙ c.if-is_header.true) (sym all ∙ c.if-all.true))

pub returns-else-is_header : goal.returns-else-is_header
returns-else-is_header c = elim c.else-is_header.branch [
  | else-is_header-via-then-is_header+else-all w ↦
      let all = all_from_yields_List is_other w.all.new.self _ w.all.result w.all.ensures.ran
      (YieldsList-from_first (λ x. x.now) (λ (left : Lines). lines_in left.0.now) {s = c.next.new.self} (lines_in c.next.new.self.0.now) refl) (λ x b q k. search rules) in
      rest_bad c.args.s.now (rw c.in_ok-first.ensures.ok_part at c.next.ensures.steps) (sym all ∙ w.if-all.false)
  | else-is_header-via-else-is_header w ↦ header_bad c.args.s.now (rw c.in_ok-first.ensures.ok_part at c.next.ensures.steps) (sym c.is_header.ensures ∙ w.if-is_header.false)
]
