-- Worked cases beside those that document 01 marks (P), which stand in `corners`: one table, and the one fact, by computation, that all its rows
-- hold. Assumes nothing.
use Rattle.std.specs.Prelude.{◌≡◌, refl, true, List, [], ◌∷◌, ℕ, ◌+◌, length, replicate}
use Rattle.memory.specs.Bytes.{bytes_of}
use Rattle.memory.specs.Lists.{over, write}
use Rattle.memory.specs.Rows.{hold}
use Rattle.gc.specs.Metadata.{header_of}
use Rattle.gc.specs.Pages.{Pages, Block, grow_of, gap_of, holds, block, pushed, fitted, allocated}

-- page 0 when it holds the box of none
unfoldable pub started : Pages
started = record { base = 65536; bytes = replicate 4096 0; last = 0; len = 32 }

-- a block of n bytes more
abbrev with_block : ℕ → Pages → Block
with_block n m = allocated 4096 0 n m

unfoldable pub rows : List (ℕ × ℕ)
rows =
    -- behind 81 bytes the next header stands at 88
    (gap_of 81, 7)
    -- a page of 8,192 bytes behind page 0
    ∷ (length (with_block 4073 started).pages.bytes, 12288)
    -- the tail of an older page is never used again: behind a block that opened page 1, the next one stands there too
    ∷ ((with_block 8 (with_block 4049 started).pages).address, 65536 + 4096 + 4088)
    ∷ []

pub all_hold : hold rows ≡ true
unfolding rows hold started grow_of gap_of holds block pushed fitted allocated header_of bytes_of write over
all_hold = refl
