-- Blocks and pages over a lent heap. Assumes nothing.
use mathlib.Core.Path.{◌≡◌, refl, sym, ap, ◌∙◌}
use Prim.Native.Nat.{ℕ, ◌+◌, ◌-◌, ◌%◌, ◌≤◌, ◌<◌}
use mathlib.Core.Bool.{Bool, true, false, not, ◌&&◌}
use mathlib.Core.List.{List, ◌++◌, append_assoc}
use native.Mathlib.Omega.{arith}
use lib.ListN.{length, take, drop, replicate, length-append, length-replicate, length-drop}
use lib.Seq.{length-take-le, drop-drop}
use lib.Dec.{leb, ltb}
use borrow.Author.Tests.{le-leb, lt-leb, leb-true, leb-false, lt-ltb, le-ltb}
use Rattle.memory.specs.Lists.{over}
use Rattle.memory.proofs.Over.{over-is, over-take, over-write, over-over, take-over, tail_returned, length-write}
use Rattle.gc.specs.declared.Gc.{Gc}
use Rattle.std.specs.Prelude.{Option, None, Some, is_none}
use Rattle.gc.specs.Metadata.{header_of}
use Rattle.gc.specs.Pages.{Pages, Block, grow_of, gap_of, holds, block, pushed, fitted, allocated}
use Rattle.gc.specs.Lent.{page_size, pages_of, numbers_of, fits, Outcome, outcome, granted, fast_of, slow_of, alloc_of, Growth}
use Rattle.gc.specs.Lent.{growth, extended, extended_in, InHeap}
use Rattle.gc.proofs.Growth.{grow_enough}
use Rattle.gc.proofs.Headers.{header_length}

-- the header's place in a page is the least multiple of 8 that is not below its length
aligned : (len at : ℕ) → len ≤ at → at < len + 8 → at % 8 ≡ 0 → at ≡ len + gap_of len
unfolding gap_of
aligned len at low high whole = omega arith

module _ (g : Gc) (heap : List ℕ) (s : InHeap g heap) where
  pub pushed-is : length (take g.pushed heap) ≡ g.pushed
  pushed-is = length-take-le g.pushed heap s.in_heap

  -- ---- in the last page
  module _ (flags n : ℕ) where
    -- a block that is longer than the lent heap
    pub too_large : length heap < n → outcome None g heap ≡ fast_of g flags n heap
    unfolding fast_of granted holds pages_of
    too_large h =
        let in_heap = s.in_heap in
        let short : g.pushed - g.page < g.len + gap_of g.len + 16 + n = omega arith in
        rw (pushed-is, lt-leb _ _ short) refl

    -- a header that stands `header` bytes behind the beginning of the last page
    module _ (header : ℕ) (low : g.len ≤ header) (high : header < g.len + 8) (whole : header % 8 ≡ 0) where
      holds-is : holds n (pages_of g heap) ≡ leb (header + 16 + n) (g.pushed - g.page)
      unfolding holds pages_of
      holds-is = rw (pushed-is, sym (aligned g.len header low high whole)) refl

      pub fast_refused : g.pushed - g.page < header + 16 + n → outcome None g heap ≡ fast_of g flags n heap
      unfolding fast_of granted
      fast_refused h = rw (holds-is, lt-leb _ _ h) refl

      pub fast_granted : (x : List ℕ) → header + 16 + n ≤ g.pushed - g.page
          → x ≡ over (header_of n flags) (take (length heap - (g.page + header)) (drop (g.page + header) heap))
          → outcome (Some (g.base + (g.page + header + 16)))
          (record { base = g.base; pushed = g.pushed; page = g.page; len = header + 16 + n })
          (take (g.page + header) heap ++ (x ++ drop (length heap - (g.page + header)) (drop (g.page + header) heap))) ≡ fast_of g flags n heap
      unfolding fast_of granted block pages_of numbers_of
      fast_granted x h q =
          let in_heap = s.in_heap in
          let in_pages = s.in_pages in
          let at = g.page + header in
          let a : g.page + g.len + gap_of g.len ≡ at = omega (arith, aligned g.len header low high whole) in
          let b : g.len + gap_of g.len + 16 + n ≡ header + 16 + n = omega (arith, aligned g.len header low high whole) in
          let room : at + length (header_of n flags) ≤ length (take g.pushed heap) = rw (header_length n flags, pushed-is) (omega arith) in
          rw (
            holds-is,
            le-leb _ _ h,
            a,
            b,
            length-write,
            pushed-is,
            q,
            tail_returned at (length heap) (header_of n flags) heap refl (omega arith),
            over-write at (header_of n flags) (take g.pushed heap) heap room,
            over-take g.pushed heap,
          ) refl

  -- ---- a page more
  module _ (cap : ℕ) where
    pushed-length : length (pushed cap (pages_of g heap)).bytes ≡ g.pushed + cap
    unfolding pushed pages_of
    pushed-length = rw (length-append, pushed-is, length-replicate) refl

    pub numbers-pushed : record { base = g.base; pushed = g.pushed + cap; page = g.pushed; len = 0 } ≡ numbers_of (pushed cap (pages_of g heap))
    unfolding numbers_of pushed pages_of
    numbers-pushed = rw (length-append, pushed-is, length-replicate) refl

    -- the lent part, zeroed, is given back
    pub page_zeroed : (z : List ℕ) → g.pushed + cap ≤ length heap
        → z ≡ replicate (length (take (g.pushed + cap - g.pushed) (drop g.pushed heap))) 0
        → take g.pushed heap ++ (z ++ drop (g.pushed + cap - g.pushed) (drop g.pushed heap)) ≡ over (pushed cap (pages_of g heap)).bytes heap
    unfolding pushed pages_of
    page_zeroed z h e =
        let k : g.pushed + cap - g.pushed ≡ cap = omega arith in
        let l : length (take cap (drop g.pushed heap)) ≡ cap = length-take-le cap (drop g.pushed heap) (rw length-drop (omega arith)) in
        let q : z ≡ replicate cap 0 = e ∙ rw (k, l) refl in
        let m : length (take g.pushed heap ++ replicate cap 0) ≡ g.pushed + cap = rw (length-append, pushed-is, length-replicate) refl in
        rw (k, q, drop-drop cap g.pushed heap) (sym (over-is (take g.pushed heap ++ replicate cap 0) heap (rw m h) ∙ rw (m, append_assoc) refl))

    pub grow_full : length heap < g.pushed + cap → growth false g heap ≡ extended_in (pushed cap (pages_of g heap)) g heap
    unfolding extended fits
    grow_full h = rw (pushed-length, lt-leb _ _ h) refl

    pub grow_to : (r : Gc) (x : List ℕ) → g.pushed + cap ≤ length heap → r ≡ numbers_of (pushed cap (pages_of g heap))
        → x ≡ over (pushed cap (pages_of g heap)).bytes heap
        → growth true r x ≡ extended_in (pushed cap (pages_of g heap)) g heap
    unfolding extended fits
    grow_to r x h p q = rw (pushed-length, le-leb _ _ h, p, q) refl

-- ---- a block in a new page

-- what an answer says of the test that led to it
grown_said : (b : Bool) (m : Pages) (g : Gc) (heap x : List ℕ) (r : Bool) (h : Gc) → r ≡ true → growth r h x ≡ extended b m g heap
    → (b ≡ true) × (h ≡ numbers_of m) × (x ≡ over m.bytes heap)
unfolding extended
grown_said true m g heap x r h q e = (refl, ap (λ (o : Growth). o.numbers) e, ap (λ (o : Growth). o.heap) e)
grown_said false m g heap x r h q e = cc (ap (λ (o : Growth). o.grown) e)

full_said : (b : Bool) (m : Pages) (g : Gc) (heap x : List ℕ) (r : Bool) (h : Gc) → r ≡ false → growth r h x ≡ extended b m g heap
    → (b ≡ false) × (h ≡ g) × (x ≡ heap)
unfolding extended
full_said true m g heap x r h q e = cc (ap (λ (o : Growth). o.grown) e)
full_said false m g heap x r h q e = (refl, ap (λ (o : Growth). o.numbers) e, ap (λ (o : Growth). o.heap) e)

pub record GivenAt (b : Bool) (k : Block) (heap x : List ℕ) (a : ℕ) (g : Gc) : Type 0 where
  pub fitting : b ≡ true
  pub address : a ≡ k.address
  pub numbers : g ≡ numbers_of k.pages
  pub bytes : x ≡ over k.pages.bytes heap

pub some_said : (b : Bool) (k : Block) (g : Gc) (heap x : List ℕ) (r : Option ℕ) (a : ℕ) (h : Gc) → r ≡ Some a
    → outcome r h x ≡ granted b k g heap → GivenAt b k heap x a h
unfolding granted
some_said true k g heap x r a h q e =
    let answer = ap (λ (o : Outcome). o.answer) e in
    record { fitting = refl; address = cc; numbers = ap (λ (o : Outcome). o.numbers) e; bytes = ap (λ (o : Outcome). o.heap) e }
some_said false k g heap x r a h q e = cc (ap (λ (o : Outcome). o.answer) e)

pub none_said : (b : Bool) (k : Block) (g : Gc) (heap x : List ℕ) (r : Option ℕ) (h : Gc) → r ≡ None
    → outcome r h x ≡ granted b k g heap → (b ≡ false) × (h ≡ g) × (x ≡ heap)
unfolding granted
none_said true k g heap x r h q e = cc (ap (λ (o : Outcome). o.answer) e)
none_said false k g heap x r h q e = (refl, ap (λ (o : Outcome). o.numbers) e, ap (λ (o : Outcome). o.heap) e)

-- pages laid over a heap, and taken out of it again
pub pages_of-over : (m : Pages) (heap : List ℕ) → length m.bytes ≤ length heap → pages_of (numbers_of m) (over m.bytes heap) ≡ m
unfolding pages_of numbers_of
pages_of-over m heap h = rw (take-over m.bytes heap h) refl

module _ (g : Gc) (flags n : ℕ) (heap : List ℕ) (s : InHeap g heap) where
  -- the page that is pushed
  abbrev fresh : Pages
  fresh = pushed (grow_of page_size n) (pages_of g heap)

  -- laying a header keeps the length, so the block fits where its page does
  fresh-fits : fits (block flags n 0 fresh).pages (length heap) ≡ fits fresh (length heap)
  unfolding fits block
  fresh-fits = rw length-write refl

  slow_is : slow_of g flags n heap ≡ granted (fits fresh (length heap)) (block flags n 0 fresh) g heap
  unfolding slow_of
  slow_is = rw fresh-fits refl

  pub slow_refused : (x : List ℕ) (r : Bool) (h : Gc) → r ≡ false → growth r h x ≡ extended_in fresh g heap
      → outcome None h x ≡ slow_of g flags n heap
  unfolding granted
  slow_refused x r h i e = let q = full_said _ fresh g heap x r h i e in rw (slow_is, q.0, q.1, q.2) refl

  module _ (x : List ℕ) (r : Bool) (h : Gc) (i : r ≡ true) (e : growth r h x ≡ extended_in fresh g heap) where
    said : (fits fresh (length heap) ≡ true) × (h ≡ numbers_of fresh) × (x ≡ over fresh.bytes heap)
    said = grown_said _ fresh g heap x r h i e

    in_heap : length fresh.bytes ≤ length heap
    unfolding fits
    in_heap = leb-true _ _ said.0

    pages_are : pages_of h x ≡ fresh
    pages_are = rw (said.1, said.2) (pages_of-over fresh heap in_heap)

    fresh_holds : holds n fresh ≡ true
    unfolding holds pushed gap_of
    fresh_holds =
        let old = (pages_of g heap).bytes in
        let k : 16 + n ≤ length (old ++ replicate (grow_of page_size n) 0) - length old = rw (length-append, length-replicate)
        (omega (arith, grow_enough page_size n (omega arith))) in
        le-leb _ _ k

    starts_empty : gap_of h.len ≡ 0
    unfolding gap_of numbers_of pushed
    starts_empty = rw said.1 refl

    keeps : length fresh.bytes ≤ length (block flags n 0 fresh).pages.bytes
    unfolding block
    keeps = rw length-write (omega arith)

    pub slow_granted : (a : Option ℕ) (k : Gc) (y : List ℕ) → outcome a k y ≡ fast_of h flags n x → outcome a k y ≡ slow_of g flags n heap
    unfolding fast_of granted
    slow_granted a k y p =
        p ∙ rw (
          pages_are,
          fresh_holds,
          starts_empty,
          slow_is,
          said.0,
          said.2,
          over-over (block flags n 0 fresh).pages.bytes fresh.bytes heap keeps,
        ) refl

  -- ---- in either page

  last_fits : (k : ℕ) → fits (block flags n k (pages_of g heap)).pages (length heap) ≡ true
  unfolding fits block pages_of
  last_fits k = rw (length-write, pushed-is g heap s) (le-leb g.pushed (length heap) s.in_heap)

  module _ (x : List ℕ) (r : Option ℕ) (h : Gc) (e : outcome r h x ≡ fast_of g flags n heap) where
    pub in_last : (p : ℕ) → r ≡ Some p → outcome (Some p) h x ≡ alloc_of g flags n heap
    unfolding fast_of alloc_of allocated fitted pages_of
    in_last p i =
        let t : holds n (pages_of g heap) ≡ true = (some_said _ _ g heap x r p h i e).fitting in
        ap (λ (a : Option ℕ). outcome a h x) (sym i) ∙ e ∙ rw (t, last_fits (gap_of g.len)) refl

    pub in_new : (a : Option ℕ) (k : Gc) (y : List ℕ) → r ≡ None → outcome a k y ≡ slow_of h flags n x → outcome a k y ≡ alloc_of g flags n heap
    unfolding fast_of slow_of alloc_of allocated fitted
    in_new a k y i p = let q = none_said _ _ g heap x r h i e in p ∙ rw (q.1, q.2, q.0) refl

  -- 'An allocation is refused exactly if the last page can't hold it and the lent heap has less left than `grow` asks.'
  fits_fresh : fits fresh (length heap) ≡ leb (g.pushed + grow_of page_size n) (length heap)
  unfolding fits
  fits_fresh = rw (pushed-length g heap s (grow_of page_size n)) refl

  pub refused_exactly : is_none (alloc_of g flags n heap).answer
      ≡ (not (holds n (pages_of g heap)) && ltb (length heap - g.pushed) (grow_of page_size n))
  unfolding alloc_of allocated fitted granted pages_of
  refused_exactly = go _ refl
    where
      left : ℕ
      left = length heap - g.pushed

      grows : (b : Bool) → leb (g.pushed + grow_of page_size n) (length heap) ≡ b → not b ≡ ltb left (grow_of page_size n)
      grows true e = let k = leb-true (g.pushed + grow_of page_size n) (length heap) e in sym (le-ltb left (grow_of page_size n) (omega arith))
      grows false e = let k = leb-false (g.pushed + grow_of page_size n) (length heap) e in sym
          (lt-ltb left (grow_of page_size n) (omega (arith, s.in_heap, grow_enough page_size n (omega arith))))

      answered : (b : Bool) (k : Block) → is_none (granted b k g heap).answer ≡ not b
      answered true k = refl
      answered false k = refl

      go : (t : Bool) → holds n (pages_of g heap) ≡ t → is_none (alloc_of g flags n heap).answer ≡ (not t && ltb left (grow_of page_size n))
      go true t = rw (t, last_fits (gap_of g.len)) refl
      go false t = rw (t, fresh-fits)
          (answered (fits fresh (length heap)) (block flags n 0 fresh) ∙ ap not fits_fresh
          ∙ grows (leb (g.pushed + grow_of page_size n) (length heap)) refl)
