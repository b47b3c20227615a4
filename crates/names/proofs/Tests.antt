-- The tests of an interning, 10 and 9, and what they leave. Assumes nothing.
use mathlib.Core.Path.{◌≡◌, refl, sym, ap, ◌∙◌}
use Prim.Native.Nat.{ℕ, ◌*◌, ◌≤◌}
use mathlib.Core.Bool.{Bool, true, false, ◌&&◌, ◌||◌}
use mathlib.Core.Option.{Option, none, some}
use mathlib.Core.List.{List, [], ◌∷◌}
use native.Mathlib.Omega.{arith}
use lib.ListN.{length, take}
use lib.Seq.{length-take-le}
use lib.Dec.{eqb}
use borrow.Author.Tests.{leb-true, eqb-true}
use Rattle.memory.proofs.Tests.{both}
use Rattle.str_table.specs.Sound as Table
use Rattle.str_table.proofs.Counting.{active-within}
use Rattle.gc.specs.Lent as Heap
use Rattle.gc.proofs.Soundness.{sound}
use Rattle.vm.specs.declared.State.{State}
use Rattle.program.specs.Image.{Test, test, failing}
use Rattle.program.proofs.Tests.{failing-cons, failing-here, failing_later}
use Rattle.vm.specs.Machine.{Lent, lend_names, unlent, blank, heap_ok, slots_ok, pages_belong, names_belong, name_tests, found}
use Rattle.names.specs.declared.interner.Names.{Names}
use Rattle.names.specs.Interned.{Belong, in_state}
use Rattle.vm.proofs.Buffers.{heap-low}

slot-most : (n : ℕ) → Table.slot_count n ≡ true → n ≤ 4096
unfolding Table.slot_count
slot-most n e = at 64 _ (omega arith)
    (at 128 _ (omega arith)
    (at 256 _ (omega arith) (at 512 _ (omega arith) (at 1024 _ (omega arith) (at 2048 _ (omega arith) (λ g. omega (arith, eqb-true n 4096 g))))))) e
  where
    at : (m : ℕ) (rest : Bool) → m ≤ 4096 → (rest ≡ true → n ≤ 4096) → (eqb n m || rest) ≡ true → n ≤ 4096
    at m rest h f e = go (eqb n m) refl e
      where
        go : (b : Bool) → eqb n m ≡ b → (b || rest) ≡ true → n ≤ 4096
        go true q e = omega (arith, eqb-true n m q)
        go false q e = f e

-- two tests of one number, one after the other
failing-both : (a b : Bool) (e : ℕ) (ts : List Test) → failing (test (a && b) e ∷ ts) ≡ failing (test a e ∷ test b e ∷ ts)
unfolding failing
failing-both true b e ts = refl
failing-both false b e ts = refl

failing-tail : (t : Test) (ts us : List Test) → failing ts ≡ failing us → failing (t ∷ ts) ≡ failing (t ∷ us)
unfolding failing
failing-tail t ts us e = ap (λ (x : Option ℕ). elim t.passes [ true ↦ x | false ↦ some t.number ]) e

module _ (rest : State) (l : Lent) (n : Names) (heap slots spare : List ℕ) where
  abbrev own : List Test
  own = name_tests (found (in_state rest n) (lend_names heap slots spare l))

  abbrev large : Test
  large = test (heap_ok n.gc.base (length heap)) 10

  abbrev paired : Test
  paired = test (slots_ok (length slots) (length spare)) 10

  abbrev paged : Test
  paged = test (Heap.sound_of n.gc (length heap)) 9

  abbrev tabled : Test
  tabled = test (Table.sound_of n.gc.base n.gc.pushed n.strings slots) 9

  -- the tests as the code makes them, one after the other
  pub in_row : failing (large ∷ paired ∷ paged ∷ tabled ∷ []) ≡ failing own
  unfolding names_belong pages_belong
  in_row =
      sym (failing-both _ _ 10 _
      ∙ failing-tail large _ _ (failing-tail paired _ _ (failing-both _ _ 9 [])))

  pub large-fails : (e : ℕ) → some e ≡ failing (large ∷ []) → some e ≡ failing own
  large-fails e f = sym (failing-here (large ∷ []) (paired ∷ paged ∷ tabled ∷ []) e (sym f)) ∙ in_row

  module _ (a : none ≡ failing (large ∷ [])) where
    after-large : failing (paired ∷ paged ∷ tabled ∷ []) ≡ failing own
    after-large = sym (failing_later (large ∷ []) (paired ∷ paged ∷ tabled ∷ []) (sym a)) ∙ in_row

    pub paired-fails : (e : ℕ) → some e ≡ failing (paired ∷ []) → some e ≡ failing own
    paired-fails e f = sym (failing-here (paired ∷ []) (paged ∷ tabled ∷ []) e (sym f)) ∙ after-large

    module _ (b : none ≡ failing (paired ∷ [])) where
      after-paired : failing (paged ∷ tabled ∷ []) ≡ failing own
      after-paired = sym (failing_later (paired ∷ []) (paged ∷ tabled ∷ []) (sym b)) ∙ after-large

      pub paged-fails : (e : ℕ) → some e ≡ failing (paged ∷ []) → some e ≡ failing own
      paged-fails e f = sym (failing-here (paged ∷ []) (tabled ∷ []) e (sym f)) ∙ after-paired

      pub tabled-is : none ≡ failing (paged ∷ []) → failing (tabled ∷ []) ≡ failing own
      tabled-is c = sym (failing_later (paged ∷ []) (tabled ∷ []) (sym c)) ∙ after-paired

-- the tests look at no other part of a state, so any will do
pub belong : (n : Names) (heap slots spare : List ℕ)
    → ((rest : State) (l : Lent) → none ≡ failing (own rest l n heap slots spare)) → Belong n heap slots spare
unfolding slots_ok Table.sound_of Table.slots_ok Table.count_ok
belong n heap slots spare p =
    let rest = (blank 0 unlent).state in
    let first = failing-cons (large rest unlent n heap slots spare) _ (in_row rest unlent n heap slots spare ∙ sym (p rest unlent)) in
    let second = failing-cons (paired rest unlent n heap slots spare) _ first.1 in
    let third = failing-cons (paged rest unlent n heap slots spare) _ second.1 in
    let fourth = failing-cons (tabled rest unlent n heap slots spare) [] third.1 in
    let lent = both (Table.slot_count (length slots)) _ second.0 in
    let table = both (Table.active_ok n.strings.active (length slots)) _ fourth.0 in
    let count = both (Table.headers_in n.gc.base n.gc.pushed (take n.strings.active slots)) _ table.1 in
    let half = both (eqb (Table.filled_in (take n.strings.active slots)) n.strings.len) _ count.1 in
    let active = active-within n.strings.active (length slots) table.0 in
    let l = length-take-le n.strings.active slots active in
    record {
      pages = sound n.gc heap (heap-low n.gc.base (length heap) first.0) third.0;
      active = active;
      few = omega (arith, leb-true (n.strings.len * 2) (length (take n.strings.active slots)) half.1);
      most = slot-most (length slots) lent.0;
      as_long = eqb-true (length spare) (length slots) lent.1;
    }
