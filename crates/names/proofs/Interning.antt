-- Interning: a new name and its slot, a name that is there, and what a call that interns comes to. Assumes nothing.
use mathlib.Core.Path.{◌≡◌, refl, sym, ap, ◌∙◌}
use Prim.Native.Nat.{ℕ, ◌+◌, ◌≤◌, ◌<◌}
use mathlib.Core.Option.{none, some}
use mathlib.Core.List.{List, [], ◌∷◌, ◌++◌}
use native.Mathlib.Omega.{arith}
use lib.ListN.{length, take}
use lib.Seq.{length-take-le}
use lib.Dec.{leb}
use borrow.Author.Tests.{leb-true, le-leb, lt-leb, le-ltb}
use Rattle.memory.proofs.Over.{over-take, take-over, length_over}
use Rattle.str_table.specs.declared.StrTable.{StrTable}
use Rattle.string.specs.Hash.{hash_of}
use Rattle.string.specs.Payload.{holds}
use Rattle.str_table.specs.Table.{lookup, found_value, placed}
use Rattle.str_table.specs.Grow.{room_of, with_room, spare_after, Inserted, inserted, insert_of}
use Rattle.str_table.proofs.Probes.{length-placed}
use Rattle.str_table.proofs.Moves.{room_holds, length-with_room}
use Rattle.gc.specs.declared.Gc.{Gc}
use Rattle.std.specs.Prelude as std
use Rattle.gc.proofs.Blocks.{GivenAt, some_said, none_said}
use Rattle.gc.specs.Pages.{Block}
use Rattle.gc.specs.Lent.{pages_of, numbers_of, fits, outcome, granted_in}
use Rattle.vm.specs.declared.State.{State}
use Rattle.program.specs.Image.{Test, test, failing}
use Rattle.program.proofs.Tests.{failing-here, failing_later}
use Rattle.vm.specs.Core.{Memory, used, short, set_memory, set_pages, set_bytes}
use Rattle.vm.specs.Names.{filled, tabled, fresh, known, interned}
use Rattle.vm.specs.Machine.{Lent, Machine, sizes, lend_heap, lend_names, memory_of, view, Called, value, host, intern, with_pages, with_names, hosted}
use Rattle.vm.specs.Machine.{Host, Found, host_leaves, granted, host_call, act, name_tests, found, tests_by, tests}
use Rattle.vm.specs.Machine.{perform}
use Rattle.vm.specs.Told.{machine_of, holding}
use Rattle.names.specs.Interned.{written, name_block, Belong, Interns, names_of}
use Rattle.vm.proofs.Performed.{refuses, refused-is, acted_is}
use Rattle.vm.proofs.Fits.{short-names, view-within, view-fits}

-- ---- a new name

-- its block was given
module _ (g : Gc) (name : List ℕ) (hash : ℕ) (heap : List ℕ) (r : std.Option ℕ) (to : Gc) (x : List ℕ)
    (e : outcome r to x ≡ granted_in (name_block name hash (pages_of g heap)) g heap) (a : ℕ) (i : r ≡ std.Some a) where
  abbrev given : Block
  given = name_block name hash (pages_of g heap)

  pub name_given : GivenAt (fits given.pages (length heap)) given heap x a to
  name_given = some_said (fits given.pages (length heap)) given g heap x r a to i e

  given_in : length given.pages.bytes ≤ length heap
  unfolding fits
  given_in = leb-true _ _ name_given.fitting

  pub pushed_in : to.pushed ≤ length x
  unfolding numbers_of
  pushed_in = rw (name_given.numbers, name_given.bytes, length_over) given_in

  pub name_bytes : take to.pushed x ≡ given.pages.bytes
  unfolding numbers_of
  name_bytes = rw (name_given.numbers, name_given.bytes) (take-over given.pages.bytes heap given_in)

module _ (s : State) (l : Lent) (name : List ℕ) where
  abbrev machine : Machine
  machine = machine_of s l

  abbrev heap : List ℕ
  heap = l.heap

  abbrev slots : List ℕ
  slots = l.slots

  abbrev spare : List ℕ
  spare = l.spare

  module _ (b : Belong (names_of s) heap slots spare) where
    long : length (take s.strings.active slots) ≡ s.strings.active
    long = length-take-le s.strings.active slots b.active

    module _ (hash : ℕ) (q : hash ≡ hash_of name) where
      abbrev room : ℕ
      room = room_of s.strings.active s.strings.len

      abbrev made : Block
      made = name_block name hash (pages_of s.gc heap)

      abbrev memory : Memory
      memory = record {
        pages = made.pages;
        slots = placed hash made.address (with_room made.pages.base made.pages.bytes (take s.strings.active slots) room);
        names = s.strings.len + 1;
      }

      fresh-is : fresh name (memory_of machine) ≡ record { value = made.address; memory = memory }
      unfolding fresh tabled filled memory_of written set_pages set_bytes
      fresh-is = rw (long, ← q) refl

      slots_long : length memory.slots ≡ room
      slots_long = length-placed _ _ _ ∙ length-with_room _ _ _ room (rw long (room_holds s.strings.active s.strings.len b.few).0)

      fresh-short : short (sizes machine.lent) (used (set_memory (fresh name (memory_of machine)).memory (view machine)))
          ≡ failing (test (leb room (length slots)) 18 ∷ test (leb (length made.pages.bytes) (length heap)) 2 ∷ [])
      unfolding used sizes view set_memory
      fresh-short = rw (fresh-is, slots_long)
          (short-names (sizes l) (used (view machine)) (view-within machine) (length made.pages.bytes) room)

      pub fresh_18 : length slots < room → refuses 18 machine ≡ host_call (intern name) machine (fresh name (memory_of machine))
      unfolding host_call granted failing
      fresh_18 h = rw (fresh-short, lt-leb room (length slots) h) refl

      module _ (h : room ≤ length slots) (r : std.Option ℕ) (to : Gc) (x : List ℕ) (e : outcome r to x ≡ granted_in made s.gc heap) where
        pub fresh_2 : r ≡ std.None → refuses 2 (machine_of (holding s to s.strings) (lend_heap x l))
            ≡ host_call (intern name) machine (fresh name (memory_of machine))
        unfolding host_call granted failing fits
        fresh_2 i =
            let no = none_said (fits made.pages (length heap)) made s.gc heap x r to i e in
            rw (fresh-short, le-leb room (length slots) h, no.0, no.1, no.2) refl

        module _ (a : ℕ) (i : r ≡ std.Some a) where
          pub fresh-done : (t : StrTable) (y z : List ℕ) → inserted t y z ≡ insert_of to.base (take to.pushed x) hash a s.strings slots spare
              → record { answer = value a; machine = machine_of (holding s to t) (lend_names x y z l) }
              ≡ host_call (intern name) machine (fresh name (memory_of machine))
          unfolding host_call granted failing fits host_leaves with_names with_pages insert_of numbers_of
          fresh-done t y z p =
              let gives = name_given s.gc name hash heap r to x e a i in
              let bytes = name_bytes s.gc name hash heap r to x e a i in
              let table = ap (λ (o : Inserted). o.table) p in
              let new = ap (λ (o : Inserted). o.slots) p in
              let old = ap (λ (o : Inserted). o.spare) p in
              rw (
                fresh-short,
                le-leb room (length slots) h,
                gives.fitting,
                fresh-is,
                slots_long,
                table,
                new,
                old,
                bytes,
                gives.numbers,
                gives.bytes,
                gives.address,
              ) refl

    -- ---- a name that is there

    own_short : short (sizes machine.lent) (used (set_memory (memory_of machine) (view machine))) ≡ none
    unfolding set_memory view
    own_short = view-fits machine (set_memory (memory_of machine) (view machine)) refl

    own_leaves : host_leaves (intern name) machine (memory_of machine) ≡ machine
    unfolding host_leaves with_names with_pages memory_of pages_of numbers_of spare_after
    own_leaves =
        let pages = length-take-le s.gc.pushed heap b.pages.in_heap in
        rw (
          pages,
          long,
          le-ltb s.strings.active s.strings.active (omega arith),
          over-take s.gc.pushed heap,
          over-take s.strings.active slots,
        ) refl

    pub found-done : (v : ℕ) → record { answer = value v; machine = machine }
        ≡ host_call (intern name) machine (record { value = v; memory = memory_of machine })
    unfolding host_call granted
    found-done v = rw (own_short, own_leaves) refl

    -- ---- by what the table gave

    abbrev probed : ℕ → std.Option ℕ
    probed hash = found_value (lookup (holds s.gc.base (take s.gc.pushed heap) name hash) (take s.strings.active slots) hash)

    abbrev done : Called
    done = host_call (intern name) machine (interned name (memory_of machine))

    module _ (hash : ℕ) (q : hash ≡ hash_of name) (p : std.Option ℕ) (is : p ≡ probed hash) where
      known_is : known name (memory_of machine) p ≡ interned name (memory_of machine)
      unfolding interned memory_of pages_of
      known_is = rw (is, q) refl

      pub told_found : (v : ℕ) → p ≡ std.Some v → record { answer = value v; machine = machine } ≡ done
      unfolding known
      told_found v e = found-done v ∙ ap (host_call (intern name) machine) (ap (known name (memory_of machine)) (sym e) ∙ known_is)

      pub told_fresh : p ≡ std.None → (x : Called) → x ≡ host_call (intern name) machine (fresh name (memory_of machine)) → x ≡ done
      unfolding known
      told_fresh e x f = f ∙ ap (host_call (intern name) machine) (ap (known name (memory_of machine)) (sym e) ∙ known_is)

-- ---- the tests in turn: 10 and 9, then what the given name is refused for

module _ (k : Host) (own : List Test) (after : (f : Found) → tests_by (host k) f ≡ name_tests f ++ own) (s : State) (l : Lent) where
  abbrev called : Machine
  called = machine_of s l

  all_tests : failing (tests (host k) s l) ≡ failing (name_tests (found s l) ++ own)
  unfolding tests
  all_tests = ap failing (after (found s l))

  pub intern-refused : (e : ℕ) → some e ≡ failing (name_tests (found s l)) → refuses e called ≡ perform (host k) called
  intern-refused e f = refused-is (host k) called e (all_tests ∙ failing-here (name_tests (found s l)) own e (sym f))

  module _ (f : none ≡ failing (name_tests (found s l))) where
    own_tests : failing (tests (host k) s l) ≡ failing own
    own_tests = all_tests ∙ failing_later (name_tests (found s l)) own (sym f)

    pub intern-not_named : (e : ℕ) → some e ≡ failing own → refuses e called ≡ perform (host k) called
    intern-not_named e g = refused-is (host k) called e (own_tests ∙ sym g)

    pub intern-told : none ≡ failing own → (name : List ℕ) → Interns k name → (x : Called)
        → x ≡ host_call (intern name) called (interned name (memory_of called)) → x ≡ perform (host k) called
    unfolding act hosted
    intern-told g name interns x e = e ∙ sym (interns called) ∙ acted_is (host k) called (own_tests ∙ sym g)
