-- `gc::Heap::push_page` meets its contract. Assumes nothing.
use Rattle.gc.proofs.Blocks.{numbers-pushed, page_zeroed}
use Rattle.gc.proofs.Heap.push_page.Goals as goal

pub returns-clause-numbers : goal.returns-clause-numbers
returns-clause-numbers c = numbers-pushed _ _ c.args.self.now.belongs _

pub returns-clause-bytes : goal.returns-clause-bytes
returns-clause-bytes c = page_zeroed _ _ c.args.self.now.belongs _ _ c.requires (c.fill.ensures.after (λ y e. e))
