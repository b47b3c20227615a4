-- `vm::State::allocate` meets its contract. Assumes nothing.
use Rattle.std.proofs.Common.{rules}
use Rattle.std.proofs.lemmas.Result.{err_from_is_err_and}
use Rattle.gc.specs.Lent.{outcome}
use Rattle.vm.specs.Machine.{lend_heap}
use Rattle.vm.proofs.Replies.{pages_sound, allocate_10, allocate_13, allocate_9, allocate-passed, allocate-told}
use Rattle.vm.proofs.State.allocate.Goals as goal

pub returns-in_err-heap_fits : goal.returns-in_err-heap_fits
returns-in_err-heap_fits c =
    λ l. let p = err_from_is_err_and c.from_residual.result c.from_residual.ensures.1 in
    rw (p.1, p.2) (allocate_10 _ (lend_heap _ l) _ _ _ _ c.in_err-heap_fits.ensures)

pub returns-in_err-kind : goal.returns-in_err-kind
returns-in_err-kind c =
    λ l. let p = err_from_is_err_and c.from_residual-in_err-kind.result c.from_residual-in_err-kind.ensures.1 in
    rw (p.1, p.2) (allocate_13 _ (lend_heap _ l) _ _ _ c.in_ok-heap_fits.ensures _ c.in_err-kind.ensures.test)

pub returns-in_err-pages_belong : goal.returns-in_err-pages_belong
returns-in_err-pages_belong c =
    λ l. let p = err_from_is_err_and c.from_residual-in_err-pages_belong.result c.from_residual-in_err-pages_belong.ensures.1 in
    rw (p.1, p.2)
    (allocate_9 _ (lend_heap _ l) _ _ _ c.in_ok-heap_fits.ensures c.in_ok-kind.ensures.test _ c.in_err-pages_belong.ensures)

pub invariant_of-heap : goal.invariant_of-heap
invariant_of-heap c = record { belongs = pages_sound _ _ c.in_ok-heap_fits.ensures c.in_ok-pages_belong.ensures }

pub returns : goal.returns
returns c =
    λ l.
    let answered =
    allocate-told c.args.self.now (lend_heap c.args.heap.now l) c.args.kind c.args.align c.args.size
    (allocate-passed _ (lend_heap _ l) _ _ _ c.in_ok-heap_fits.ensures c.in_ok-kind.ensures.test c.in_ok-pages_belong.ensures)
    (outcome c.alloc-address.result c.alloc-address.new.self.gc c.alloc-address.new.self.bytes.now)
    (rw (c.new.ensures.0, c.new.ensures.1, c.in_ok-kind.ensures.value) at c.alloc-address.ensures.outcome)
    in
    rw c.ok_or.ensures.value (search (rules, answered))
