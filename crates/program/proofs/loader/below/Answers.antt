-- `program::loader::below` meets its contract: it is `all` of the test. Assumes nothing.
use Rattle.std.proofs.Common.{◌∙◌, ltb, rules}
use Rattle.std.proofs.lemmas.Iterator.{YieldsList-from_slice}
use Rattle.std.proofs.lemmas.Iterator.Search.{all_from_yields_List}
use Rattle.program.proofs.Images.{below_all}
use Rattle.program.proofs.loader.below.Goals as goal

pub returns : goal.returns
returns c =
    all_from_yields_List (λ x. ltb x c.args.n) _ _ _ c.all.ensures.ran (YieldsList-from_slice c.args.xs.now cc) (λ x b q k. search (rules))
    ∙ below_all c.args.n c.args.xs.now
