-- Allocating in pushed pages of any page size, on a machine without limits. Definitions only.
use Rattle.std.specs.Prelude.{ℕ, ◌+◌, ◌-◌, ◌*◌, ◌/◌, Bool, true, false, List, ◌++◌, length, replicate, leb}
use Rattle.memory.specs.Lists.{write}
use Rattle.gc.specs.Metadata.{header_of}

-- the pushed pages: the heap's base address, all their bytes, and the last page's place and length
pub record Pages : Type 0 where
  pub base : ℕ
  pub bytes : List ℕ
  pub last : ℕ
  pub len : ℕ

-- a block's address, and the pages that hold it
pub record Block : Type 0 where
  pub address : ℕ
  pub pages : Pages

-- n rounded up to a multiple of a
abbrev pub round_up : ℕ → ℕ → ℕ
round_up a n = (n + (a - 1)) / a * a

-- the bytes of the page that is pushed for a block of n: '`grow` adds 24'
unfoldable pub grow_of : ℕ → ℕ → ℕ
grow_of page_size n = round_up page_size (24 + n)

-- the gap before the header in a page of that length: the payload comes to a multiple of 8
unfoldable pub gap_of : ℕ → ℕ
gap_of len = round_up 8 len - len

-- 'the last page can hold it': gap, header and payload end at the page's end at the latest
unfoldable pub holds : ℕ → Pages → Bool
holds n m = leb (m.len + gap_of m.len + 16 + n) (length m.bytes - m.last)

-- a block of n bytes at the end of the last page: its header behind a gap g, its payload behind the header
unfoldable pub block : ℕ → ℕ → ℕ → Pages → Block
block flags n g m =
    let at = m.last + m.len + g in
    record {
      address = m.base + (at + 16);
      pages = record { base = m.base; bytes = write at (header_of n flags) m.bytes; last = m.last; len = m.len + g + 16 + n };
    }

-- 'a page is zeroed as it is pushed', behind the others; 'the tail of an older page is never used again'
unfoldable pub pushed : ℕ → Pages → Pages
pushed n m = record { base = m.base; bytes = m.bytes ++ replicate n 0; last = length m.bytes; len = 0 }

unfoldable pub fitted : Bool → ℕ → ℕ → ℕ → Pages → Block
fitted true page_size flags n m = block flags n (gap_of m.len) m
fitted false page_size flags n m = block flags n 0 (pushed (grow_of page_size n) m)

-- in the last page if that can hold it, else in a new one
unfoldable pub allocated : ℕ → ℕ → ℕ → Pages → Block
allocated page_size flags n m = fitted (holds n m) page_size flags n m
