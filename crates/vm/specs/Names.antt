-- What a host allocates: blocks, options and names, on a memory without limits. Definitions only.
use Rattle.std.specs.Prelude.{ℕ, ◌+◌, ◌-◌, List, ◌++◌, length, Option, None, Some}
use Rattle.memory.specs.Bytes.{bytes_of}
use Rattle.memory.specs.Lists.{write}
use Rattle.string.specs.Hash.{hash_of}
use Rattle.string.specs.Payload.{payload_of, payload_size, holds}
use Rattle.str_table.specs.Table.{lookup, found_value, placed}
use Rattle.str_table.specs.Grow.{room_of, with_room}
use Rattle.gc.specs.Pages.{Pages, Block, allocated}
use Rattle.gc.specs.Lent.{page_size}
use Rattle.vm.specs.Core.{Memory, set_pages, set_bytes}

-- a value, and the memory that holds it
pub record Given : Type 0 where
  pub value : ℕ
  pub memory : Memory

-- bytes written into the payload of a block
unfoldable pub filled : List ℕ → Memory → Block → Given
filled bs l b =
    let bytes = write (b.address - b.pages.base) bs b.pages.bytes in
    record { value = b.address; memory = set_pages (set_bytes bytes b.pages) l }

-- a block as it is given
unfoldable pub as_given : Memory → Block → Given
as_given l b = record { value = b.address; memory = set_pages b.pages l }

-- a block of n bytes and a kind; what lay there shows through
unfoldable pub allocates : ℕ → ℕ → Memory → Given
allocates kind n l = as_given l (allocated page_size kind n l.pages)

-- a tag and a value
abbrev pub box_of : ℕ → ℕ → List ℕ
box_of tag v = bytes_of 8 tag ++ bytes_of 8 v

-- '`new_option` of a value boxes [1, value] anew', an Option (2) of 16 bytes; a start boxes [0, 0]
unfoldable pub boxed : ℕ → ℕ → Memory → Given
boxed tag v l = filled (box_of tag v) l (allocated page_size 2 16 l.pages)

-- '`new_option` of none returns `none`', which is B+16
unfoldable pub optional : Option ℕ → Memory → Given
optional None l = record { value = l.pages.base + 16; memory = l }
optional (Some v) l = boxed 1 v l

-- a name's value v in the table: the old slots placed again if the table grows, then its slot
unfoldable pub tabled : ℕ → ℕ → List ℕ → ℕ → Pages → Given
tabled hash v slots names p =
    let room = room_of (length slots) names in
    record { value = v; memory = record { pages = p; slots = placed hash v (with_room p.base p.bytes slots room); names = names + 1 } }

-- a name that is not there yet: its block, a String (3), its bytes, then its slot
unfoldable pub fresh : List ℕ → Memory → Given
fresh s l =
    let g = filled (payload_of s (hash_of s)) l (allocated page_size 3 (payload_size (length s)) l.pages) in
    tabled (hash_of s) g.value l.slots l.names g.memory.pages

-- 'the value if found (whole length, hash and bytes equal)'
unfoldable pub known : List ℕ → Memory → Option ℕ → Given
known s l (Some v) = record { value = v; memory = l }
known s l None = fresh s l

unfoldable pub interned : List ℕ → Memory → Given
interned s l = known s l (found_value (lookup (holds l.pages.base l.pages.bytes s (hash_of s)) l.slots (hash_of s)))
