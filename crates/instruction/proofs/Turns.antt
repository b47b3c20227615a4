-- One instruction over state and buffers, by what it asks for: the machine that its code leaves. Assumes nothing.
use Rattle.std.proofs.Common.{◌≡◌, ℕ, zero, suc, ◌+◌, ◌-◌, ◌%◌, ◌^◌, ◌<◌, ◌≤◌, Bool, true, false, cond, not, ◌&&◌, ◌||◌, eqb, ltb, leb, List, [], ◌∷◌, ◌++◌, length, get_or, take, set, sym, refl, ap, ◌∙◌, ⊎_elim, true≢false, arith, length-append, length-take-le, get_or-take, take-take, ltb-false, ltb-true, le-leb, leb-false, leb-true}
use mathlib.Core.Option.{none}
use borrow.Author.Tests.{lt-leb}
use Rattle.memory.specs.Bytes.{bytes_of, number, value_of}
use Rattle.memory.specs.Lists.{over, write, part}
use Rattle.memory.proofs.Over.{over-take, over-more, over-write, length-write}
use Rattle.memory.proofs.Bytes.{length-bytes_of}
use Rattle.memory.proofs.Tests.{both}
use Rattle.std.proofs.lemmas.Bool.{or_cases}
use Rattle.string.specs.Payload.{reaches}
use Rattle.gc.specs.declared.Gc.{Gc}
use Rattle.std.specs.Prelude as std
use Rattle.gc.proofs.Blocks.{some_said, none_said}
use Rattle.gc.specs.Pages.{Pages, Block, allocated}
use Rattle.gc.specs.Lent.{page_size, pages_of, numbers_of, fits, outcome, alloc_of}
use Rattle.gc.proofs.Blocks.{pushed-is}
use Rattle.gc.specs.declared.AllocType.{AllocType}
use Rattle.gc.specs.Metadata.{bits_of}
use Rattle.effects.specs.declared.Stop.{Stop}
use Rattle.effects.specs.Stops.{number_of_stop}
use Rattle.effects.specs.declared.Effect.TheVariants as effect
use Rattle.program.specs.Image.{test, failing}
use Rattle.instruction.specs.declared.frames.Frames.{Frames}
use Rattle.gc.specs.declared.Heap.{Heap}
use Rattle.vm.specs.Core.{Core, used, short, set_reg, set_regs, set_pc, set_frames, set_memory, set_pages, set_bytes}
use Rattle.vm.specs.Run.{next, stop, provided, forward, addressed, loaded, stored8, returned, block_to, apply, unless, limited}
use Rattle.vm.specs.Machine.{Lent, Machine, sizes, lend_frames, lend_heap, memory_of, view, with_pages, traced, with_frames, with_regs, laid}
use Rattle.vm.specs.declared.State.{State}
use Rattle.instruction.specs.Turn.{Position, at_pc, at_depth, at_gc, machine_at, standing, lend_in, Fitting, place_in, goes, halts, stops, Turned, turned, turn}
use Rattle.vm.proofs.Fits.{none_of, fit_frames, short-frames, view-within, view-fits}
use Rattle.vm.proofs.Replies.{pages-short}

abbrev went : Machine → Turned
went m = record { how = goes; machine = m }

abbrev stopped : ℕ → Machine → Turned
stopped e m = record { how = stops e; machine = m }

-- ---- the place of an address

pub part-take : (i k n : ℕ) (xs : List ℕ) → i + k ≤ n → part i k (take n xs) ≡ part i k xs
part-take zero k n xs h = take-take k n xs (omega arith)
part-take (suc i) k n [] h = elim n as (λ (j : ℕ). part (suc i) k (take j []) ≡ part (suc i) k []) [ zero ↦ refl | suc j ↦ refl ]
part-take (suc i) k zero (x ∷ xs) h = absurd (omega arith)
part-take (suc i) k (suc n) (x ∷ xs) h = part-take i k n xs (omega arith)

pub low_pushed : (h : Heap) → h.gc.base + h.gc.pushed ≤ 2 ^ 48
low_pushed h = let low = h.belongs.low in let inside = h.belongs.in_heap in omega arith

-- what a place says of the address
pub record Reached (g : Gc) (a i : ℕ) : Type 0 where
  pub aligned : eqb (a % 8) 0 ≡ true
  pub inside : reaches g.base g.pushed a 8 ≡ true
  pub place : i ≡ a - g.base

reached_by : (b : Bool) (i j : ℕ) → cond b (std.Some j) std.None ≡ std.Some i → (b ≡ true) × (i ≡ j)
reached_by true i j e = (refl, cc)
reached_by false i j e = cc

outside_by : (b : Bool) (j : ℕ) → cond b (std.Some j) std.None ≡ std.None → b ≡ false
outside_by true j e = cc
outside_by false j e = refl

pub one_high : (a b : ℕ) → (leb (2 ^ 48) a || leb (2 ^ 48) b) ≡ true → 2 ^ 48 ≤ a + b
one_high a b h = ⊎_elim (λ p. omega (arith, leb-true (2 ^ 48) a p)) (λ p. omega (arith, leb-true (2 ^ 48) b p))
    (or_cases (leb (2 ^ 48) a) (leb (2 ^ 48) b) h)

pub both_low : (a b : ℕ) → (leb (2 ^ 48) a || leb (2 ^ 48) b) ≡ false → (a < 2 ^ 48) × (b < 2 ^ 48)
both_low a b h = by (leb (2 ^ 48) a) (leb (2 ^ 48) b) refl refl h
  where
    by : (p q : Bool) → leb (2 ^ 48) a ≡ p → leb (2 ^ 48) b ≡ q → (p || q) ≡ false → (a < 2 ^ 48) × (b < 2 ^ 48)
    by true q e f h = absurd (true≢false h)
    by false true e f h = absurd (true≢false h)
    by false false e f h = (leb-false (2 ^ 48) a e, leb-false (2 ^ 48) b f)

module _ (g : Gc) (a : ℕ) where
  pub reached : (i : ℕ) → place_in g a ≡ std.Some i → Reached g a i
  unfolding place_in
  reached i e =
      let q = reached_by _ i (a - g.base) e in
      let b = both (eqb (a % 8) 0) _ q.0 in
      record { aligned = b.0; inside = b.1; place = q.1 }

  pub place_room : (i : ℕ) → place_in g a ≡ std.Some i → i + 8 ≤ g.pushed
  unfolding reaches
  place_room i e =
      let r = reached i e in
      let k = leb-true (a - g.base + 8) g.pushed (both (leb g.base a) _ r.inside).1 in
      omega (arith, r.place)

  -- ---- as it is tested: no sum that could pass 2^64 is made

  pub place_high : g.base + g.pushed ≤ 2 ^ 48 → 2 ^ 48 ≤ a → std.None ≡ place_in g a
  unfolding place_in reaches
  place_high low h = no (eqb (a % 8) 0) (leb g.base a) (lt-leb (a - g.base + 8) g.pushed (omega arith))
    where
      no : (p q : Bool) {r : Bool} → r ≡ false → std.None ≡ cond (p && (q && r)) (std.Some (a - g.base)) std.None
      no true true e = rw e refl
      no true false e = refl
      no false q e = refl

  module _ (at : ℕ) (bound : at < 2 ^ 64) (difference : (at + g.base) % 2 ^ 64 ≡ a) (small : a < 2 ^ 64) (base : g.base < 2 ^ 64) where
    pub place_past : g.pushed ≤ at → g.pushed ≤ 2 ^ 48 → std.None ≡ place_in g a
    unfolding place_in reaches
    place_past h low = no (eqb (a % 8) 0) (leb g.base a) refl
      where
        no : (p q : Bool) → leb g.base a ≡ q
            → std.None ≡ cond (p && (q && leb (a - g.base + 8) g.pushed)) (std.Some (a - g.base)) std.None
        no true true e = let k = leb-true g.base a e in rw (lt-leb (a - g.base + 8) g.pushed (omega arith)) refl
        no true false e = refl
        no false q e = refl

    module _ (low : g.base + g.pushed ≤ 2 ^ 48) (inside : at < g.pushed) where
      is_at : (a - g.base ≡ at) × (g.base ≤ a)
      is_at = (omega arith, omega arith)

      place_by : (p q : Bool) → eqb (a % 8) 0 ≡ p → ltb g.pushed (at + 8) ≡ q → cond (not p || q) std.None (std.Some at) ≡ place_in g a
      unfolding place_in reaches
      place_by p true e f =
          let k = ltb-true g.pushed (at + 8) f in
          rw (
            e,
            is_at.0,
            le-leb g.base a is_at.1,
            lt-leb (at + 8) g.pushed k,
          )
          (elim p as (λ (b : Bool). cond (not b || true) std.None (std.Some at) ≡ cond (b && false) (std.Some at) std.None)
          [ true ↦ refl | false ↦ refl ])
      place_by p false e f =
          let k = ltb-false g.pushed (at + 8) f in
          rw (
            e,
            is_at.0,
            le-leb g.base a is_at.1,
            le-leb (at + 8) g.pushed k,
          )
          (elim p as (λ (b : Bool). cond (not b || false) std.None (std.Some at) ≡ cond (b && true) (std.Some at) std.None)
          [ true ↦ refl | false ↦ refl ])

      pub place_is : (t : Bool) → (not (eqb (a % 8) 0) || ltb g.pushed (at + 8)) ≡ t → cond t std.None (std.Some at) ≡ place_in g a
      place_is t e = rw (← e) (place_by _ _ refl refl)

-- ---- instructions

-- frames and heap fit the buffers in which they lie
pub fitting : (pc : ℕ) (f : Frames) (h : Heap) (l : Lent) → Fitting (standing pc f h) (lend_in f h l)
fitting pc f h l = record { deep = f.deep; sound = h.belongs }

module _ (s : State) (at : Position) (regs : List ℕ) (l : Lent) (fit : Fitting at l) where
  abbrev m : Machine
  m = machine_at s at regs l

  abbrev frames : List ℕ
  frames = l.frames

  abbrev heap : List ℕ
  heap = l.heap

  depth_is : length (take at.depth frames) ≡ at.depth
  depth_is = length-take-le at.depth frames fit.deep

  bytes_are : length (take at.gc.pushed heap) ≡ at.gc.pushed
  bytes_are = pushed-is at.gc heap fit.sound

  -- pages and frames laid back as they were
  pub laid_same : (r : List ℕ) (p : ℕ) → laid [] (set_regs r (set_pc p (view m))) m ≡ machine_at s (at_pc p at) r l
  unfolding laid with_regs with_frames with_pages traced view memory_of pages_of numbers_of set_regs set_pc
  laid_same r p = rw (over-take, over-take, bytes_are, depth_is) refl

  -- an instruction that changes registers and pc alone
  goes_on : (r : List ℕ) (p : ℕ) → turned m (limited (sizes l) (view m) (next (set_regs r (set_pc p (view m))))) ≡ went (machine_at s (at_pc p at) r l)
  unfolding turned limited unless
  goes_on r p = rw (view-fits m (set_regs r (set_pc p (view m))) (unfold used set_regs set_pc in refl), laid_same r p) refl

  -- one that stops and has done nothing
  stays : (e : ℕ) → turned m (stop e (view m)) ≡ stopped e m
  unfolding turned set_regs set_pc view
  stays e = rw (laid_same regs at.pc) refl

  pub turn-set : (dst v : ℕ) → turn (effect.Set dst v) m ≡ went (machine_at s (at_pc (at.pc + 1) at) (set regs dst v) l)
  unfolding turn apply forward set_pc set_regs view
  turn-set dst v = goes_on (set regs dst v) (at.pc + 1)

  pub turn_skip : turn effect.Skip m ≡ went (machine_at s (at_pc (at.pc + 1) at) regs l)
  unfolding turn apply forward set_pc set_regs view
  turn_skip = goes_on regs (at.pc + 1)

  pub turn_goto : (target : ℕ) → turn (effect.Goto target) m ≡ went (machine_at s (at_pc target at) regs l)
  unfolding turn apply set_pc set_regs view
  turn_goto target = goes_on regs target

  pub turn-stop : (why : Stop) → turn (effect.Stop why) m ≡ stopped (number_of_stop why) m
  unfolding turn apply limited
  turn-stop why = stays (number_of_stop why)

  pub turn_unlisted : (number : ℕ) → turn (effect.Unlisted number) m ≡ stopped number m
  unfolding turn apply limited
  turn_unlisted number = stays number

  pub turn-halt : turn effect.Halt m ≡ record { how = halts; machine = m }
  unfolding turn apply limited turned
  turn-halt = refl

  -- ---- Call and Ret

  abbrev pushed-frames : List ℕ
  pushed-frames = take at.depth frames ++ (at.pc ∷ [])

  pushed-length : length pushed-frames ≡ at.depth + 1
  pushed-length = length-append (take at.depth frames) (at.pc ∷ []) ∙ rw depth_is refl

  frame_short : (func : ℕ) → short (sizes l) (used (set_pc func (set_frames pushed-frames (view m))))
      ≡ failing (test (leb (at.depth + 1) (length frames)) 3 ∷ [])
  unfolding used sizes view memory_of set_pc set_frames
  frame_short func = rw pushed-length (short-frames (sizes l) (used (view m)) (view-within m) (at.depth + 1))

  pub turn-deep : (func : ℕ) → length frames ≤ at.depth → turn (effect.Call func) m ≡ stopped 3 m
  unfolding turn apply limited failing unless view
  turn-deep func h = rw (frame_short func, lt-leb (at.depth + 1) (length frames) (omega arith)) (stays 3)

  frame_laid : at.depth < length frames → over pushed-frames frames ≡ set frames at.depth at.pc
  frame_laid h =
      let room : length (take at.depth frames) < length frames = rw depth_is h in
      sym (over-more (take at.depth frames) at.pc frames room) ∙ rw (over-take, depth_is) refl

  pub turn-call : (func : ℕ) → at.depth < length frames
      → turn (effect.Call func) m ≡ went
      (machine_at s (at_pc func (at_depth (at.depth + 1) at)) regs (lend_frames (set frames at.depth at.pc) l))
  unfolding turn apply limited turned failing unless laid with_regs with_frames with_pages traced view memory_of pages_of numbers_of set_pc set_frames
  turn-call func h =
      rw (frame_short func, le-leb (at.depth + 1) (length frames) (omega arith), pushed-length, frame_laid h, over-take, bytes_are) refl

  pub turn_underflow : at.depth ≡ 0 → turn effect.Ret m ≡ stopped 8 m
  unfolding turn apply limited returned view
  turn_underflow e = let none_in : length (view m).frames ≡ 0 = depth_is ∙ e in rw none_in (stays 8)

  module _ (d : ℕ) (e : at.depth ≡ suc d) where
    inner_length : length (take d (take at.depth frames)) ≡ d
    inner_length = length-take-le d (take at.depth frames) (rw depth_is (omega arith))

    inner_laid : over (take d (take at.depth frames)) frames ≡ frames
    inner_laid = rw (take-take d at.depth frames (omega arith)) (over-take d frames)

    abbrev back : Core
    back = set_pc ((get_or (take at.depth frames) d 0 + 1) % 2 ^ 64) (set_frames (take d (take at.depth frames)) (view m))

    back_fits : short (sizes l) (used back) ≡ none
    unfolding used sizes view memory_of set_pc set_frames
    back_fits =
        let deep = fit.deep in
        rw inner_length (none_of _ _ (fit_frames (sizes l) (used (view m)) (view-within m) d (omega arith)))

    pub turn_ret : turn effect.Ret m ≡ went (machine_at s (at_pc ((get_or frames d 0 + 1) % 2 ^ 64) (at_depth d at)) regs l)
    unfolding turn apply limited turned unless returned view memory_of laid with_regs with_frames with_pages traced pages_of numbers_of set_pc set_frames
    turn_ret =
        let deeper : length (view m).frames ≡ suc d = depth_is ∙ e in
        rw (deeper, back_fits, inner_laid, inner_length, over-take, bytes_are, get_or-take at.depth frames d 0 (omega arith)) refl

  -- ---- Load and Store

  pub in_pages : (a : ℕ) → addressed (view m).memory.pages a ≡ (eqb (a % 8) 0 && reaches at.gc.base at.gc.pushed a 8)
  unfolding addressed view memory_of pages_of
  in_pages a = rw bytes_are refl

  module _ (base offset : ℕ) where
    abbrev address : ℕ
    address = base + offset

    module _ (out : place_in at.gc address ≡ std.None) where
      not_there : addressed (view m).memory.pages address ≡ false
      unfolding place_in
      not_there = in_pages address ∙ outside_by _ (address - at.gc.base) out

      pub turn_load_outside : (dst : ℕ) → turn (effect.Load dst base offset) m ≡ stopped 6 m
      unfolding turn apply limited provided
      turn_load_outside dst = rw not_there (stays 6)

      pub turn_store_outside : (v : ℕ) → turn (effect.Store base offset v) m ≡ stopped 6 m
      unfolding turn apply limited provided
      turn_store_outside v = rw not_there (stays 6)

    module _ (i : ℕ) (there : place_in at.gc address ≡ std.Some i) where
      is-there : addressed (view m).memory.pages address ≡ true
      is-there = let r = reached at.gc address i there in in_pages address ∙ rw (r.aligned, r.inside) refl

      room : i + 8 ≤ at.gc.pushed
      room = place_room at.gc address i there

      loaded-is : loaded (view m).memory.pages address ≡ number 8 i heap
      unfolding loaded view memory_of pages_of
      loaded-is =
          let r = reached at.gc address i there in
          rw (← r.place) (ap value_of (part-take i 8 at.gc.pushed heap room))

      pub turn_load : (dst : ℕ) → turn (effect.Load dst base offset) m ≡ went (machine_at s (at_pc (at.pc + 1) at) (set regs dst (number 8 i heap)) l)
      unfolding turn apply provided forward set_pc set_regs
      turn_load dst = rw (is-there, loaded-is) (unfold view in goes_on (set regs dst (number 8 i heap)) (at.pc + 1))

      abbrev stores : ℕ → Pages
      stores v = stored8 address v (view m).memory.pages

      stores_length : (v : ℕ) → length (stores v).bytes ≡ at.gc.pushed
      unfolding stored8 set_bytes view memory_of pages_of
      stores_length v = length-write _ _ _ ∙ bytes_are

      stores_laid : (v : ℕ) → over (stores v).bytes heap ≡ write i (bytes_of 8 v) heap
      unfolding stored8 set_bytes view memory_of pages_of
      stores_laid v =
          let r = reached at.gc address i there in
          let n = length-bytes_of 8 v in
          rw (← r.place) (over-write i (bytes_of 8 v) (take at.gc.pushed heap) heap (rw (n, bytes_are) room) ∙ rw over-take refl)

      stores_fit : (v : ℕ) → short (sizes l) (used (forward (set_memory (set_pages (stores v) (view m).memory) (view m)))) ≡ none
      unfolding failing used forward set_pc set_memory set_pages view
      stores_fit v =
          let all : leb (length (stores v).bytes) (length heap)
          ≡ true = rw (stores_length v) (le-leb at.gc.pushed (length heap) fit.sound.in_heap) in
          pages-short m.state l (stores v) ∙ rw all refl

      pub turn_store : (v : ℕ) → turn (effect.Store base offset v) m
          ≡ went (machine_at s (at_pc (at.pc + 1) at) regs (lend_heap (write i (bytes_of 8 v) heap) l))
      unfolding turn apply limited turned provided unless laid with_regs with_frames with_pages traced numbers_of forward set_pc set_memory set_pages
      turn_store v = rw (is-there, stores_fit v, stores_laid v, stores_length v)
          (unfold view memory_of pages_of stored8 set_bytes in rw (over-take, depth_is) refl)

  -- ---- Alloc

  module _ (dst : ℕ) (kind : AllocType) (n : ℕ) (r : std.Option ℕ) (g : Gc) (x : List ℕ) (e : outcome r g x ≡ alloc_of at.gc (bits_of kind) n heap) where
    abbrev b : Block
    b = allocated page_size (bits_of kind) n (pages_of at.gc heap)

    abbrev holding : Core
    holding = forward (set_reg dst b.address (set_memory (set_pages b.pages (view m).memory) (view m)))

    alloc_short : short (sizes l) (used holding) ≡ failing (test (fits b.pages (length heap)) 2 ∷ [])
    unfolding fits used forward set_pc set_regs set_memory set_pages view
    alloc_short = pages-short m.state l b.pages

    pub turn_no_block : r ≡ std.None → turn (effect.Alloc kind dst n) m ≡ stopped 2 (machine_at s (at_gc g at) regs (lend_heap x l))
    unfolding turn apply limited unless failing block_to alloc_of view memory_of
    turn_no_block q =
        let no = none_said (fits b.pages (length heap)) b at.gc heap x r g q e in
        rw (alloc_short, no.0, no.1, no.2) (stays 2)

    pub turn-block : (a : ℕ) → r ≡ std.Some a
        → turn (effect.Alloc kind dst n) m
        ≡ went (machine_at s (at_pc (at.pc + 1) (at_gc g at)) (set regs dst a) (lend_heap x l))
    unfolding turn apply limited turned unless failing block_to alloc_of laid with_regs with_frames with_pages traced forward set_pc set_regs set_memory
        set_pages view memory_of
    turn-block a q =
        let is = some_said (fits b.pages (length heap)) b at.gc heap x r a g q e in
        rw (alloc_short, is.fitting, is.address, is.numbers, is.bytes, over-take, depth_is) refl
