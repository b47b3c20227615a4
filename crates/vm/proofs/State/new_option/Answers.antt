-- `vm::State::new_option` meets its contract. Assumes nothing.
use Rattle.std.proofs.Common.{rules}
use native.Mathlib.Omega.{arith}
use Rattle.std.proofs.lemmas.Result.{err_from_is_err_and}
use Rattle.gc.specs.Lent.{outcome}
use Rattle.vm.specs.Machine.{lend_heap}
use Rattle.vm.proofs.Replies.{pages_sound, option_10, option_9, option-passed, option-none, option_some}
use Rattle.vm.proofs.State.new_option.Goals as goal

pub returns-in_err-heap_fits : goal.returns-in_err-heap_fits
returns-in_err-heap_fits c =
    λ l. let p = err_from_is_err_and c.from_residual.result c.from_residual.ensures.1 in
    rw (p.1, p.2) (option_10 _ (lend_heap _ l) _ _ c.in_err-heap_fits.ensures)

pub returns-in_err-pages_belong : goal.returns-in_err-pages_belong
returns-in_err-pages_belong c =
    λ l. let p = err_from_is_err_and c.from_residual-in_err-pages_belong.result c.from_residual-in_err-pages_belong.ensures.1 in
    rw (p.1, p.2) (option_9 _ (lend_heap _ l) _ c.in_ok-heap_fits.ensures _ c.in_err-pages_belong.ensures)

pub overflow_add-result : goal.overflow_add-result
overflow_add-result c = let low = (pages_sound _ _ c.in_ok-heap_fits.ensures c.in_ok-pages_belong.ensures).low in record { fits = omega arith }

pub invariant_of-heap : goal.invariant_of-heap
invariant_of-heap c = record { belongs = pages_sound _ _ c.in_ok-heap_fits.ensures c.in_ok-pages_belong.ensures }

pub returns-in_default : goal.returns-in_default
returns-in_default c =
    λ l. rw c.in_default.is
    (option-none _ (lend_heap _ l) (option-passed _ (lend_heap _ l) _ c.in_ok-heap_fits.ensures c.in_ok-pages_belong.ensures)
    (pages_sound _ _ c.in_ok-heap_fits.ensures c.in_ok-pages_belong.ensures))

pub returns : goal.returns
returns c =
    λ l.
    let answered =
    option_some c.args.self.now (lend_heap c.args.heap.now l) c.in-Some.v (option-passed _ (lend_heap _ l) _ c.in_ok-heap_fits.ensures c.in_ok-pages_belong.ensures)
    (outcome c.boxed-address.result c.boxed-address.new.heap.gc c.boxed-address.new.heap.bytes.now) c.boxed-address.ensures.outcome
    in
    rw (c.in-Some.is, c.ok_or.ensures.value) (search (rules, answered))
