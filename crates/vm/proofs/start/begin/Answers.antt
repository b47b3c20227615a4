-- `vm::start::begin` meets its contract. Assumes nothing.
use Rattle.std.proofs.Common.{rules}
use Rattle.vm.specs.Machine.{lend_begin}
use Rattle.vm.proofs.Boxes.{first_laid}
use Rattle.vm.proofs.Loading.{no_page, bare-in_heap, begun_with}
use Rattle.vm.proofs.start.begin.Goals as goal

pub invariant_of-pages : goal.invariant_of-pages
invariant_of-pages c = record { belongs = rw (no_page _ _ c.blank-state.ensures) (bare-in_heap _ _ c.requires.1.0) }

pub returns : goal.returns
returns c =
    λ l.
    let begun =
    begun_with _ (lend_begin c.args.frames.now c.args.heap.now l) _ _ _
    (first_laid _ _ c.requires.1.1 _ _ _ (rw (no_page _ _ c.blank-state.ensures) at c.boxed.ensures.outcome)) _ c.blank-state.ensures
    in
    search (rules, begun)
