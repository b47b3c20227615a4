-- `text::lines::line_feed` meets its contract. Assumes nothing.
use Rattle.std.proofs.Common.{rules, eqb}
use Rattle.std.proofs.lemmas.Iterator.{YieldsList-from_slice}
use Rattle.std.proofs.lemmas.Iterator.Search.{position_from_yields_List}
use borrow.Author.Tests.{tests}
use Rattle.text.proofs.Splitting.{feed_found}
use Rattle.text.proofs.lines.line_feed.Goals as goal

pub returns : goal.returns
returns c =
    feed_found c.args.s.now _
    (position_from_yields_List (λ x. eqb x 10) _ _ _ c.position.ensures.ran (YieldsList-from_slice c.args.s.now (cc)) (λ x b q k. search (rules, tests)))
