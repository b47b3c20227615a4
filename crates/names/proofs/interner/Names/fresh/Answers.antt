-- `names::interner::Names::fresh` meets its contract. Assumes nothing.
use Rattle.std.proofs.Common.{rules}
use mathlib.Core.Path.{sym}
use lib.Seq.{length-take-le}
use Rattle.std.proofs.lemmas.Result.{err_from_is_err_and}
use Rattle.vm.specs.Machine.{lend_names}
use Rattle.vm.proofs.Tested.{none_why}
use Rattle.names.specs.Interned.{in_state}
use Rattle.names.proofs.Interning.{fresh_18, fresh_2, pushed_in, fresh-done}
use Rattle.names.proofs.interner.Names.fresh.Goals as goal

pub returns-then-slots-room : goal.returns-then-slots-room
returns-then-slots-room g c =
    λ rest l. fresh_18 (in_state rest c.args.self.now) (lend_names _ _ _ l) _ c.requires.0 _ c.requires.1 (rw c.room.ensures at c.if-slots-room.true)

pub returns-in_err-address : goal.returns-in_err-address
returns-in_err-address g c =
    λ rest l. let p = err_from_is_err_and c.from_residual.result c.from_residual.ensures.1 in
    let refused =
    fresh_2 (in_state rest c.args.self.now) (lend_names c.args.heap.now c.args.slots.now c.args.spare.now l) (g.N.Name.bytes c.args.hashed.name)
    c.requires.0 c.args.hashed.hash c.requires.1 (rw c.room.ensures at c.if-slots-room.false) c.store-stored.result c.store-stored.new.heap.gc
    c.store-stored.new.heap.bytes.now c.store-stored.ensures.outcome c.in_err-address.ensures.ok_part
    in
    rw (p.1, p.2, none_why _ _ _ c.in_err-address.ensures.value) (search (rules, refused))

pub slice_bounds-pages-end : goal.slice_bounds-pages-end
slice_bounds-pages-end g c = pushed_in _ (g.N.Name.bytes c.args.hashed.name) _ _ _ _ _ c.store-stored.ensures.outcome _ c.in_ok-address.ensures.ok_part

pub slice_bounds-pages-end-2 : goal.slice_bounds-pages-end-2
slice_bounds-pages-end-2 g c = sym (length-take-le _ _ (pushed_in _ (g.N.Name.bytes c.args.hashed.name) _ _ _ _ _ c.store-stored.ensures.outcome _ c.in_ok-address.ensures.ok_part))

pub returns : goal.returns
returns g c =
    λ rest l.
    let stored =
    fresh-done (in_state rest c.args.self.now) (lend_names c.args.heap.now c.args.slots.now c.args.spare.now l) (g.N.Name.bytes c.args.hashed.name)
    c.requires.0 c.args.hashed.hash c.requires.1 (rw c.room.ensures at c.if-slots-room.false) c.store-stored.result c.store-stored.new.heap.gc
    c.store-stored.new.heap.bytes.now c.store-stored.ensures.outcome _ c.in_ok-address.ensures.ok_part _ _ _ c.insert-self.ensures
    in
    search (rules, stored)
