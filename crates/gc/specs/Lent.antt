-- Pages in a lent heap: the part in use, what fits, and what a call answers and leaves. Definitions only.
use Rattle.std.specs.Prelude.{ℕ, ◌+◌, ◌%◌, ◌≤◌, ◌^◌, Bool, true, false, ◌&&◌, List, length, take, leb, ltb, eqb}
use Rattle.memory.specs.Lists.{over}
use Rattle.std.specs.Prelude.{Option, None, Some}
use Rattle.gc.specs.declared.Gc.{Gc}
use Rattle.gc.specs.Pages.{Pages, Block, grow_of, gap_of, holds, block, pushed, allocated}

abbrev pub page_size : ℕ
page_size = 4096

-- the pages of a lent heap, and their numbers
unfoldable pub pages_of : Gc → List ℕ → Pages
pages_of g heap = record { base = g.base; bytes = take g.pushed heap; last = g.page; len = g.len }

unfoldable pub numbers_of : Pages → Gc
numbers_of m = record { base = m.base; pushed = length m.bytes; page = m.last; len = m.len }

-- pages fit a lent heap of so many bytes
unfoldable pub fits : Pages → ℕ → Bool
fits m lent = leb (length m.bytes) lent

-- what allocating answers, an address or nothing, with the numbers and the heap that it leaves
pub record Outcome : Type 0 where
  pub answer : Option ℕ
  pub numbers : Gc
  pub heap : List ℕ

abbrev pub outcome : Option ℕ → Gc → List ℕ → Outcome
outcome a g h = record { answer = a; numbers = g; heap = h }

-- the block, its pages laid over the lent heap; or, refused, numbers and heap as they were
unfoldable pub granted : Bool → Block → Gc → List ℕ → Outcome
granted true b g heap = outcome (Some b.address) (numbers_of b.pages) (over b.pages.bytes heap)
granted false b g heap = outcome None g heap

abbrev pub granted_in : Block → Gc → List ℕ → Outcome
granted_in b g heap = granted (fits b.pages (length heap)) b g heap

-- allocating n bytes with these flags: in the last page or not at all, in a new page, and in either
unfoldable pub fast_of : Gc → ℕ → ℕ → List ℕ → Outcome
fast_of g flags n heap = granted (holds n (pages_of g heap)) (block flags n (gap_of g.len) (pages_of g heap)) g heap

unfoldable pub slow_of : Gc → ℕ → ℕ → List ℕ → Outcome
slow_of g flags n heap = granted_in (block flags n 0 (pushed (grow_of page_size n) (pages_of g heap))) g heap

unfoldable pub alloc_of : Gc → ℕ → ℕ → List ℕ → Outcome
alloc_of g flags n heap = granted_in (allocated page_size flags n (pages_of g heap)) g heap

-- whether a page was pushed, with the numbers and the heap that this leaves
pub record Growth : Type 0 where
  pub grown : Bool
  pub numbers : Gc
  pub heap : List ℕ

abbrev pub growth : Bool → Gc → List ℕ → Growth
growth b g h = record { grown = b; numbers = g; heap = h }

unfoldable pub extended : Bool → Pages → Gc → List ℕ → Growth
extended true m g heap = growth true (numbers_of m) (over m.bytes heap)
extended false m g heap = growth false g heap

abbrev pub extended_in : Pages → Gc → List ℕ → Growth
extended_in m g heap = extended (fits m (length heap)) m g heap

-- 9: 'pushed pages absent, broken or past the heap; the last page's place no page start inside them, or its length past their end'
unfoldable pub sound_of : Gc → ℕ → Bool
sound_of g lent =
    ltb 0 g.pushed
    && (eqb (g.pushed % page_size) 0
    && (leb g.pushed lent
    && (eqb (g.page % page_size) 0
    && (ltb g.page g.pushed
    && leb (g.page + g.len) g.pushed))))

-- what allocating asks of the heap's numbers: it ends at 2 ^ 48 at the latest, the pages lie in it, and the last one's length in the pages.
-- This is less than 9 asks: a start allocates before a page is pushed
pub record InHeap (g : Gc) (heap : List ℕ) : Type 0 where
  pub low : g.base + length heap ≤ 2 ^ 48
  pub in_heap : g.pushed ≤ length heap
  pub in_pages : g.page + g.len ≤ g.pushed
