-- What 9 asks of pages and names is kept by every host call and by every run. Assumes nothing.
use Rattle.std.specs.Prelude as std
use mathlib.Core.Path.{◌≡◌, refl}
use Prim.Native.Nat.{ℕ, ◌+◌, ◌-◌, ◌%◌, ◌≤◌, ◌<◌}
use mathlib.Core.Bool.{Bool, true, false}
use mathlib.Core.List.{List}
use native.Mathlib.Omega.{arith}
use lib.ListN.{length, length-append, length-replicate}
use borrow.Author.Tests.{lt-ltb, le-leb}
use Rattle.memory.specs.Lists.{write}
use Rattle.memory.proofs.Over.{length-write}
use Rattle.std.specs.Prelude as std
use Rattle.string.specs.Hash.{hash_of}
use Rattle.string.specs.Payload.{payload_of, payload_size, reaches}
use Rattle.gc.specs.Pages.{Pages, Block, grow_of, block, pushed, fitted, allocated}
use Rattle.gc.specs.Lent.{page_size, numbers_of}
use Rattle.gc.specs.Lent as Heap
use Rattle.gc.proofs.Growth.{grow_enough, grow_whole}
use Rattle.program.specs.Image.{Image}
use Rattle.vm.specs.Core.{Core, Memory, Sizes, set_pages, set_bytes}
use Rattle.vm.specs.Run.{stored8, go}
use Rattle.vm.specs.Names as Names
use Rattle.vm.specs.Machine.{Host, allocate, option, intern, intern_small, hosted}
use Rattle.vm.proofs.Every.{apply_every, step_every, go_every}
use Rattle.vm.proofs.Kept.{allocated-base}
use Rattle.vm.proofs.Grows.{Ends, allocated_grows}
use Rattle.vm.proofs.Blocks.{Placed, allocated-placed}
use Rattle.vm.proofs.Refusals.{pages_on, table_on}
use Rattle.str_table.proofs.Inserting.{SlotsSound, slots-sound_ok, slots-sound-more, insert_sound}

-- none of the clauses of 9: 'pushed pages absent, broken or past the heap; the last page's place no page start inside them, or its length past
-- their end'
pub record PagesSound (p : Pages) : Type 0 where
  pub whole : length p.bytes % page_size ≡ 0
  pub at_page : p.last % page_size ≡ 0
  pub inside : p.last < length p.bytes
  pub ends : Ends p

-- and of an interning the table's
pub record Belongs (l : Memory) : Type 0 where
  pub pages : PagesSound l.pages
  pub names : SlotsSound l.pages.base (length l.pages.bytes) l.names l.slots

-- so the tests of 9 pass
pub pages_pass : (l : Memory) → Belongs l → pages_on l ≡ true
unfolding pages_on Heap.sound_of numbers_of
pages_pass l h =
    let s = h.pages in
    let n : ℕ = length l.pages.bytes in
    let inside = s.inside in
    rw (lt-ltb 0 n (omega arith), s.whole, le-leb n n (omega arith), s.at_page, lt-ltb l.pages.last n inside) (le-leb _ _ s.ends)

pub names_pass : (l : Memory) → Belongs l → table_on l ≡ true
unfolding table_on
names_pass l h =
    let n : ℕ = length l.slots in
    rw (le-leb n n (omega arith), h.names.active) (slots-sound_ok _ _ l.names l.slots h.names)

-- ---- from pages to pages: none is lost, and what is left is sound

record Pushes (p q : Pages) : Type 0 where
  base : q.base ≡ p.base
  more : length p.bytes ≤ length q.bytes
  sound : PagesSound q

pages_belong_lem : (l : Memory) (q : Pages) → Belongs l → Pushes l.pages q → Belongs (set_pages q l)
unfolding set_pages
pages_belong_lem l q h k = record {
  pages = k.sound;
  names = rw k.base (slots-sound-more _ _ _ l.names l.slots k.more h.names);
}

-- bytes written in place
written : (p : Pages) (at : ℕ) (bs : List ℕ) → PagesSound p → PagesSound (set_bytes (write at bs p.bytes) p)
unfolding set_bytes
written p at bs s =
    record { whole = rw length-write s.whole; at_page = s.at_page; inside = rw length-write s.inside; ends = rw length-write s.ends }

fitted-sound : (t : Bool) (flags n : ℕ) (p : Pages) → PagesSound p → Ends (fitted t page_size flags n p).pages
    → PagesSound (fitted t page_size flags n p).pages
unfolding fitted block pushed
fitted-sound true flags n p s e =
    record { whole = rw length-write s.whole; at_page = s.at_page; inside = rw length-write s.inside; ends = e }
fitted-sound false flags n p s e =
    let whole : length p.bytes % 4096 ≡ 0 = s.whole in
    let grown : grow_of page_size n % 4096 ≡ 0 = grow_whole page_size n (omega arith) in
    let room : 24 + n ≤ grow_of page_size n = grow_enough page_size n (omega arith) in
    record {
      whole = rw (length-write, length-append, length-replicate) (omega arith);
      at_page = whole;
      inside = rw (length-write, length-append, length-replicate) (omega arith);
      ends = e;
    }

allocated_pushes : (flags n : ℕ) (p : Pages) → PagesSound p → Pushes p (allocated page_size flags n p).pages
unfolding allocated
allocated_pushes flags n p s =
    let g = allocated_grows flags n p s.ends in
    record { base = allocated-base page_size flags n p; more = g.more; sound = fitted-sound _ flags n p s g.ends }

-- ---- a run

stored_pushes : (a v : ℕ) (p : Pages) → PagesSound p → Pushes p (stored8 a v p)
unfolding stored8 set_bytes
stored_pushes a v p s = record { base = refl; more = rw length-write (omega arith); sound = written p _ _ s }

pub go-belongs : (n : Sizes) (im : Image) (b : ℕ) (c : Core) → Belongs c.memory → Belongs (go n im b c).core.memory
go-belongs n im b c h =
    go_every (λ d. Belongs d.memory) n im
    (λ d k. step_every (λ e. Belongs e.memory) n im d k
    (apply_every (λ r l. Belongs l) d k (λ r dst v q. q) (λ a v. pages_belong_lem d.memory _ k (stored_pushes a v _ k.pages))
    (λ dst kind m. pages_belong_lem d.memory _ k (allocated_pushes kind m _ k.pages)))) b c h

-- ---- a host call

fitted_not_zero : (t : Bool) (flags n : ℕ) (p : Pages) → (fitted t page_size flags n p).address ≡ 0 → ⊥
unfolding fitted block
fitted_not_zero true flags n p e = omega arith
fitted_not_zero false flags n p e = omega arith

allocated_not_zero : (flags n : ℕ) (p : Pages) → (allocated page_size flags n p).address ≡ 0 → ⊥
unfolding allocated
allocated_not_zero flags n p = fitted_not_zero _ flags n p

-- a string's header lies in the pages that hold its block
header_reached : (b : Block) (len : ℕ) → Placed (payload_size len) b → reaches b.pages.base (length b.pages.bytes) b.address 8 ≡ true
unfolding reaches
header_reached b len k =
    let within = k.within in
    rw (le-leb b.pages.base b.address k.above) (le-leb (b.address - b.pages.base + 8) (length b.pages.bytes) (omega arith))

module _ (l : Memory) (h : Belongs l) where
  -- a block with bytes in its payload
  filled_pushes : (bs : List ℕ) (flags n : ℕ) → Pushes l.pages (Names.filled bs l (allocated page_size flags n l.pages)).memory.pages
  unfolding Names.filled set_pages set_bytes
  filled_pushes bs flags n =
      let k = allocated_pushes flags n l.pages h.pages in
      record { base = k.base; more = rw length-write k.more; sound = written _ _ bs k.sound }

  -- a new name, while its slots are as many as can be lent
  fresh-belongs : (s : List ℕ) → length (Names.fresh s l).memory.slots ≤ 4096 → Belongs (Names.fresh s l).memory
  unfolding Names.fresh Names.tabled Names.filled set_pages set_bytes
  fresh-belongs s le =
      let size : ℕ = payload_size (length s) in
      let k = filled_pushes (payload_of s (hash_of s)) 3 size in
      let b = pages_belong_lem l _ h k in
      record {
        pages = k.sound;
        names = insert_sound _ _ _ l.names l.slots (hash_of s) _ b.names (allocated_not_zero 3 size l.pages)
            (rw length-write (header_reached _ (length s) (allocated-placed 3 size l.pages))) le;
      }

  known-belongs : (s : List ℕ) (p : std.Option ℕ) → length (Names.known s l p).memory.slots ≤ 4096 → Belongs (Names.known s l p).memory
  unfolding Names.known
  known-belongs s (std.Some v) le = h
  known-belongs s std.None le = fresh-belongs s le

  optional-belongs : (o : std.Option ℕ) → Belongs (Names.optional o l).memory
  unfolding Names.optional Names.boxed Names.filled set_pages
  optional-belongs std.None = h
  optional-belongs (std.Some v) = pages_belong_lem l _ h (filled_pushes _ 2 16)

  pub hosted-belongs : (k : Host) → length (hosted k l).memory.slots ≤ 4096 → Belongs (hosted k l).memory
  unfolding hosted Names.allocates Names.as_given Names.interned
  hosted-belongs (allocate kind align n) le = pages_belong_lem l _ h (allocated_pushes kind n l.pages h.pages)
  hosted-belongs (option o) le = optional-belongs o
  hosted-belongs (intern s) le = known-belongs s _ le
  hosted-belongs (intern_small n w) le = known-belongs _ _ le
