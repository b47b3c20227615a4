-- Each case marked (P) in document 01, and its worked image, as rows of one table, and the one fact, by computation, that all rows hold. Every row
-- goes through the machine's own start, calls and run but one, `small_hash`, which no call of the definition asks. Assumes nothing.
use Rattle.std.specs.Prelude.{◌≡◌, refl, true, List, [], ◌∷◌, ℕ, zero, suc, ◌+◌, ◌-◌, ◌*◌, ◌^◌, get_or, replicate, take, drop, None}
use Rattle.std.specs.Float.Ieee.{is_nan, of_bits, to_bits, of_int, to_signed}
use Rattle.memory.specs.Bytes.{bytes_of, value_of}
use Rattle.memory.specs.Lists.{over, write, same}
use Rattle.memory.specs.Rows.{hold}
use Rattle.value.specs.Int.{signed, pattern}
use Rattle.value.specs.Int as Int
use Rattle.value.specs.Double.{bits}
use Rattle.string.specs.Hash.{mixed, folded, chunks, hash_of, small_hash_of}
use Rattle.string.specs.Payload.{payload_of, reaches, headed, holds, small_ok}
use Rattle.str_table.specs.Table.{home, probe, lookup, never, filled, placed}
use Rattle.str_table.specs.Grow.{stored_hash, moved_one, moved, room_of, widened, with_room, spare_after}
use Rattle.str_table.specs.Sound as Table
use Rattle.gc.specs.Metadata.{header_of}
use Rattle.gc.specs.Pages as Pages
use Rattle.gc.specs.Lent.{pages_of, numbers_of}
use Rattle.gc.specs.Lent as Heap
use Rattle.op.specs.Decode as Op
use Rattle.op.specs.Decode.{decoded_by, decode_of}
use Rattle.op.specs.Reach.{check_of}
use Rattle.vm.specs.Core.{used, needs, short, set_regs, set_pc, set_frames, set_memory, set_pages, set_bytes}
use Rattle.program.specs.Image.{Image, Tables, start_of, entries_of, counts, rising, tables_ok, image_ok, ends_in_halt, below, word_test}
use Rattle.program.specs.Image.{word_tests, image_tests, failing}
use Rattle.effects.specs.Effect.{divided, jump_if, within, slot, switched, effect_of, word_effect}
use Rattle.vm.specs.Run.{provided, forward, addressed, loaded, stored8, returned, block_to, apply, fetched, asked, unless, limited, step, after, go}
use Rattle.vm.specs.Run.{root, entered, stored}
use Rattle.vm.specs.Names as Names
use Rattle.vm.specs.Machine.{Lent, Machine, sizes, memory_of, view, with_pages, with_names, traced, with_frames, with_regs, allocate, option}
use Rattle.vm.specs.Machine.{intern, intern_small, Call, run, host, Answer, ended, value, done, refused, ran, idle, runs, hosted, with_setting, laid}
use Rattle.vm.specs.Machine.{run_leaves, host_leaves, granted, host_call, run_call, act, frames_ok, heap_ok, slots_ok, returns_ok, frames_belong}
use Rattle.vm.specs.Machine.{pages_belong, names_belong, tests_by, tests, tried, perform, Started, declined, begun, first_page, first_memory}
use Rattle.vm.specs.Machine.{blank, begin, starts, start}

-- ---- images, buffers, and what is read off

abbrev no_tables : Tables
no_tables = record { firsts = []; ends = []; entries = [] }

abbrev image : List ℕ → Tables → Image
image code switches = record { code = code; globals = []; switches = switches; lookups = no_tables; defaults = [] }

-- the heap's base in all cases
abbrev B : ℕ
B = 0x10000

-- so many frames, pages and slots, none of them cleared
unfoldable pub lent : ℕ → ℕ → ℕ → Lent
lent frames pages slots = record {
  frames = replicate frames 7;
  heap = replicate (pages * 4096) 7;
  slots = replicate slots 7;
  spare = replicate slots 7;
}

unfoldable pub started_in : Lent → Started → Machine
started_in l (declined e) = blank 0 l
started_in l (begun m) = m

-- a machine started on an image
unfoldable pub started : Image → ℕ → ℕ → ℕ → Machine
started im frames pages slots = started_in (lent frames pages slots) (start im B (lent frames pages slots))

-- a machine started on no code, with three pages
abbrev fresh : ℕ → ℕ → Machine
fresh frames slots = started (image [] no_tables) frames 3 slots

unfoldable pub after_all : List Call → Machine → Machine
after_all [] m = m
after_all (k ∷ ks) m = after_all ks (perform k m).machine

-- an answer as one number: a value, from 2 ^ 64 on a refusal, and from 2 ^ 128 on an end with its pc and steps. None of these cases is just done
unfoldable pub said : Answer → ℕ
said (ended e pc steps) = 2 ^ 128 + (e * 2 ^ 64 + pc) * 2 ^ 32 + steps
said (value v) = v
said done = 2 ^ 64
said (refused e) = 2 ^ 64 + e

abbrev answered : Call → Machine → ℕ
answered k m = said (perform k m).answer

abbrev register : ℕ → Machine → ℕ
register r m = get_or m.state.regs r 0

unfoldable pub summed : List ℕ → ℕ
summed [] = 0
summed (x ∷ xs) = x + summed xs

-- 8 bytes of the heap, from so many behind B on
abbrev heap_word : ℕ → Machine → ℕ
heap_word at m = value_of (take 8 (drop at m.lent.heap))

-- names of one byte each: n of them
unfoldable pub singles : ℕ → List Call
singles zero = []
singles (suc n) = host (intern (n ∷ [])) ∷ singles n

-- LoadI r0, subject; Switch on Str over seven slots; Halt; then r1 = 1 for slot 0 and r1 = 6 for slot 6
unfoldable pub switching : ℕ → Image
switching subject =
    image
    ((27 + subject * 2 ^ 32) ∷ 36 ∷ 59 ∷ (27 + 0x100 + 1 * 2 ^ 32) ∷ 59 ∷ (27 + 0x100 + 6 * 2 ^ 32) ∷ 59 ∷ [])
    (record { firsts = (B + 48) ∷ []; ends = 7 ∷ []; entries = 3 ∷ 2 ∷ 2 ∷ 2 ∷ 2 ∷ 2 ∷ 5 ∷ [] })

-- Call 0; Halt
unfoldable pub calling : Image
calling = image (39 ∷ 59 ∷ []) no_tables

-- the worked image of 'Instruction and image'
unfoldable pub worked : Image
worked = image (0x000000070000001b ∷ 0xffffffff00000101 ∷ 0x000000000000003b ∷ []) no_tables

-- LoadI r0, B+48; LoadI r1, −1; Store: the word at r0 is r1; Halt
unfoldable pub writing : Image
writing = image ((27 + (B + 48) * 2 ^ 32) ∷ (27 + 0x100 + 0xffffffff * 2 ^ 32) ∷ (54 + 0x1_0000) ∷ 59 ∷ []) no_tables

-- a machine in which the next payload, at B+48, will lie on bytes that are not zero
abbrev written : Machine
written = (perform (run writing 10) (fresh 1 64)).machine

-- instructions to r2, of r0 and, if they divide, r1: CastToInt, CastToDouble, IDiv, IMod
abbrev to_int : ℕ
to_int = 50 + 0x200

abbrev to_double : ℕ
to_double = 51 + 0x200

abbrev quotient : ℕ
quotient = 6 + 0x200 + 0x100_0000

abbrev remainder : ℕ
remainder = 8 + 0x200 + 0x100_0000

-- LoadG of r0, r1 and r2: the operands x and y, and 99, which is no result of these cases; the instruction; Halt
unfoldable pub computing : ℕ → ℕ → ℕ → Image
computing word x y = record {
  code = 28 ∷ (28 + 0x100 + 1 * 2 ^ 32) ∷ (28 + 0x200 + 2 * 2 ^ 32) ∷ word ∷ 59 ∷ [];
  globals = x ∷ y ∷ 99 ∷ [];
  switches = no_tables;
  lookups = no_tables;
  defaults = [];
}

-- r2 after that run
abbrev computed : ℕ → ℕ → ℕ → ℕ
computed word x y = register 2 (perform (run (computing word x y) 10) (fresh 1 64)).machine

unfoldable pub rows : List (ℕ × ℕ)
rows =
    -- string.rs: the hash of the empty string is 0, by `hash`: the header, length and hash, on a word of ones; and by `small_hash`
    (heap_word 48 written, 2 ^ 64 - 1)
    ∷ (heap_word 48 (after_all (host (intern []) ∷ []) written), 0)
    ∷ (heap_word 48 (after_all (host (intern_small 0 0) ∷ []) written), 0)
    ∷ (small_hash_of 0 0, 0)
    -- first `insert` makes 64 slots; 32 strings fit; the 33rd makes 128, and 33 are counted
    ∷ ((after_all (singles 1) (fresh 1 128)).state.strings.active, 64)
    ∷ ((after_all (singles 32) (fresh 1 128)).state.strings.active, 64)
    ∷ ((after_all (singles 33) (fresh 1 128)).state.strings.active, 128)
    ∷ ((after_all (singles 33) (fresh 1 128)).state.strings.len, 33)
    -- .. replacing the old ones in slot order: two names whose homes collide in 128 slots stand in the order of the old slots
    ∷ (get_or (after_all (singles 33) (fresh 1 128)).lent.slots 8 0, B + 0x130)
    ∷ (get_or (after_all (singles 33) (fresh 1 128)).lent.slots 9 0, B + 0x310)
    -- gc.rs: `Vm::new_in` boxes [0, 0] in a block of 16 bytes, an Option (2): `none` is B+16 and page 0 has length 32
    ∷ (heap_word 0 (fresh 1 64), 16)
    ∷ (heap_word 8 (fresh 1 64), 2)
    ∷ (heap_word 16 (fresh 1 64), 0)
    ∷ (heap_word 24 (fresh 1 64), 0)
    ∷ (answered (host (option None)) (fresh 1 64), B + 16)
    ∷ ((fresh 1 64).state.gc.len, 32)
    -- then interning empty, `a`, `a` gives B+48, B+72, B+72; page length 81
    ∷ (answered (host (intern [])) (fresh 1 64), B + 48)
    ∷ (answered (host (intern (97 ∷ []))) (after_all (host (intern []) ∷ []) (fresh 1 64)), B + 72)
    ∷ (answered (host (intern (97 ∷ []))) (after_all (host (intern []) ∷ host (intern (97 ∷ [])) ∷ []) (fresh 1 64)), B + 72)
    ∷ ((after_all (host (intern []) ∷ host (intern (97 ∷ [])) ∷ host (intern (97 ∷ [])) ∷ []) (fresh 1 64)).state.gc.len, 81)
    -- after a start, size 4,048 fits page 0; size 4,049 opens a page, and the block is B+4,112
    ∷ (answered (host (allocate 0 8 4048)) (fresh 1 64), B + 48)
    ∷ ((after_all (host (allocate 0 8 4048) ∷ []) (fresh 1 64)).state.gc.pushed, 4096)
    ∷ (answered (host (allocate 0 8 4049)) (fresh 1 64), B + 4112)
    -- `grow` for size 4,072 makes 4,096 bytes, for 4,073 it makes 8,192, behind page 0
    ∷ ((after_all (host (allocate 0 8 4072) ∷ []) (fresh 1 64)).state.gc.pushed, 4096 + 4096)
    ∷ ((after_all (host (allocate 0 8 4073) ∷ []) (fresh 1 64)).state.gc.pushed, 4096 + 8192)
    -- value/mod.rs: `CastToInt` of a NaN, −0.5, 2^63, −2^63
    ∷ (computed to_int 0x7ff8_0000_0000_0000 1, 0)
    ∷ (computed to_int 0xbfe0_0000_0000_0000 1, 0)
    ∷ (computed to_int 0x43e0_0000_0000_0000 1, 2 ^ 63 - 1)
    ∷ (computed to_int 0xc3e0_0000_0000_0000 1, 2 ^ 63)
    -- `CastToDouble` of 2^53+1 and 2^53+3
    ∷ (computed to_double (2 ^ 53 + 1) 1, 0x4340_0000_0000_0000)
    ∷ (computed to_double (2 ^ 53 + 3) 1, 0x4340_0000_0000_0002)
    -- vm.rs: −7 divided by 2 is −3, remainder −1
    ∷ (computed quotient (2 ^ 64 - 7) 2, 2 ^ 64 - 3)
    ∷ (computed remainder (2 ^ 64 - 7) 2, 2 ^ 64 - 1)
    -- `Switch` on Str, first B+48: subject B+72 is slot 6, subject B+50 slot 0
    ∷ (register 1 (perform (run (switching (B + 72)) 10) (fresh 1 64)).machine, 6)
    ∷ (register 1 (perform (run (switching (B + 50)) 10) (fresh 1 64)).machine, 1)
    -- `Call` at depth 1 with one frame ends 3, at its own place and after no step
    ∷ (answered (run calling 10) (fresh 1 64), 2 ^ 128 + 3 * 2 ^ 96)
    -- the worked image: end 0, pc 2, 3 steps; r0 is 7, r1 is 6 and no other register is set; depth 1, one page of length 32, no string
    ∷ (answered (run worked 10) (started worked 4 1 64), 2 ^ 128 + 2 * 2 ^ 32 + 3)
    ∷ (register 0 (perform (run worked 10) (started worked 4 1 64)).machine, 7)
    ∷ (register 1 (perform (run worked 10) (started worked 4 1 64)).machine, 6)
    ∷ (summed (perform (run worked 10) (started worked 4 1 64)).machine.state.regs, 13)
    ∷ ((perform (run worked 10) (started worked 4 1 64)).machine.state.depth, 1)
    ∷ ((perform (run worked 10) (started worked 4 1 64)).machine.state.gc.pushed, 4096)
    ∷ ((perform (run worked 10) (started worked 4 1 64)).machine.state.gc.len, 32)
    ∷ ((perform (run worked 10) (started worked 4 1 64)).machine.state.strings.len, 0)
    ∷ []

pub all_hold : hold rows ≡ true
unfolding rows hold lent started_in started after_all said summed singles switching calling worked writing computing bytes_of value_of over write same
    signed pattern Int.divided bits is_nan of_bits to_bits of_int to_signed mixed folded chunks hash_of small_hash_of payload_of reaches headed holds
    home probe lookup never filled placed stored_hash moved_one moved room_of widened with_room spare_after Table.slot_count Table.active_ok
    Table.filled_in Table.headers_in Table.count_ok Table.slots_ok Table.sound_of header_of Pages.grow_of Pages.gap_of Pages.holds
    Pages.block Pages.pushed Pages.fitted Pages.allocated pages_of numbers_of Heap.sound_of Op.rows decoded_by decode_of check_of used needs
    short set_regs set_pc set_frames set_memory set_pages set_bytes start_of entries_of counts rising tables_ok image_ok ends_in_halt below word_test
    word_tests image_tests divided jump_if within slot switched effect_of provided forward addressed loaded stored8 returned block_to apply
    word_effect fetched asked unless limited step after go root entered stored Names.filled Names.as_given Names.allocates Names.boxed Names.optional
    Names.tabled Names.fresh Names.known Names.interned sizes memory_of view with_pages with_names traced with_frames with_regs ran idle runs
    hosted with_setting laid run_leaves host_leaves granted host_call run_call act frames_ok heap_ok slots_ok returns_ok frames_belong pages_belong
    names_belong small_ok tests tests_by failing tried perform first_page first_memory blank begin starts start
all_hold = refl
