-- Inputs of the image runner and its outputs, whole, in one table, and the one fact, by computation, that all its rows hold. Assumes nothing.
use Rattle.std.specs.Prelude.{◌≡◌, refl, true, List, [], ◌∷◌, ◌++◌, ℕ, zero, suc, ◌+◌}
use Rattle.memory.specs.Bytes.{bytes_of, value_of}
use Rattle.memory.specs.Lists.{over, write, same}
use Rattle.memory.specs.Rows.{hold_lists}
use Rattle.string.specs.Hash.{mixed, folded, chunks, hash_of}
use Rattle.string.specs.Payload.{payload_of, reaches, headed, holds}
use Rattle.str_table.specs.Table.{home, probe, lookup, never, filled, placed}
use Rattle.str_table.specs.Grow.{stored_hash, moved_one, moved, room_of, widened, with_room, spare_after}
use Rattle.str_table.specs.Sound as Table
use Rattle.gc.specs.Metadata.{header_of}
use Rattle.gc.specs.Pages as Pages
use Rattle.gc.specs.Lent.{pages_of, numbers_of}
use Rattle.gc.specs.Lent as Heap
use Rattle.op.specs.Decode as Op
use Rattle.op.specs.Decode.{decoded_by, decode_of}
use Rattle.op.specs.Reach.{check_of}
use Rattle.program.specs.Image.{start_of, entries_of, counts, rising, tables_ok, image_ok, ends_in_halt, below, word_test, word_tests, image_tests, failing}
use Rattle.effects.specs.Effect.{within, effect_of, word_effect}
use Rattle.vm.specs.Core.{used, needs, short, set_regs, set_pc, set_frames, set_memory, set_pages, set_bytes}
use Rattle.vm.specs.Run.{provided, forward, addressed, loaded, stored8, returned, block_to, apply, fetched, asked, unless, limited, step, after, go}
use Rattle.vm.specs.Run.{root, entered, stored}
use Rattle.vm.specs.Names as Names
use Rattle.vm.specs.Machine.{sizes, memory_of, view, with_pages, with_names, traced, with_frames, with_regs, ran, idle, runs, hosted, laid}
use Rattle.vm.specs.Machine.{run_leaves, host_leaves, granted, host_call, run_call, act, frames_ok, heap_ok, slots_ok, returns_ok, frames_belong}
use Rattle.vm.specs.Machine.{pages_belong, names_belong, tests_by, tests, tried, perform, first_page, first_memory, blank, begin, starts, start}
use Rattle.text.specs.Digits as Digits
use Rattle.text.specs.Lines as Lines
use Rattle.text.specs.Text.{rest_ok, lines_ok, text_ok, head_in, head_of}
use Rattle.text.specs.Sections.{adds, section_of}
use Rattle.text.specs.Names.{names_of}
use Rattle.text.specs.Cases.{digits, line, worked}
use Rattle.report.specs.Hex.{digit_of_value, hex_of}
use Rattle.report.specs.Report.{end_line, register_line, register_lines, state_line, report_of, refusal_of}
use Rattle.image_names.specs.Named.{intern_on, intern_all}
use Rattle.outcome.specs.Outcome.{reply_text, run_text}
use Rattle.rating.specs.Rated.{ready_text, started_text}
use Rattle.image_runner.specs.Runner.{sections_fit, room_for, image_text, answer_of}

-- a header that asks for one page
abbrev one_page : List ℕ
one_page = line 38 0x0000000000000100000001000400400000000a

abbrev halt : List ℕ
halt = line 18 0x01000000000000003b

-- names of one byte each: n of them
unfoldable pub singles : ℕ → List ℕ
singles zero = []
singles (suc n) = line 4 (0x0500 + n) ++ singles n

-- a global 7 and the name `a`; LoadG r0, 1; LoadG r1, 0
unfoldable pub naming : List ℕ
naming =
    one_page
    ++ line 18 0x020000000000000007
    ++ line 4 0x0561
    ++ line 18 0x01000000010000001c
    ++ line 18 0x01000000000000011c
    ++ halt

-- LoadI r1, 6; Alloc of 4,096 bytes
unfoldable pub allocating : List ℕ
allocating = one_page ++ line 18 0x01000000060000011b ++ line 18 0x010000100008000035 ++ halt

-- a header that asks for nine pages
unfoldable pub nine_pages : List ℕ
nine_pages = line 38 0x0000000000000100000009000400400000000a

unfoldable pub rows : List (List ℕ × List ℕ)
rows =
    -- document 01's worked image
    (
      answer_of worked,
      line 26 0x00000000000000000200000003
          ++ line 18 0x000000000000000007
          ++ line 18 0x010000000000000006
          ++ line 20 0x00010001000000200000,
    )
    -- the name's value, B+48, is the global behind 7
    ∷ (
      answer_of naming,
      line 26 0x00000000000000000200000003
          ++ line 18 0x000000000000010030
          ++ line 18 0x010000000000000007
          ++ line 20 0x00010001000000390001,
    )
    -- a refused allocation ends a run with its report
    ∷ (answer_of allocating, line 26 0x02000000000000000100000001 ++ line 18 0x010000000000000006 ++ line 20 0x00010001000000200000)
    -- the 33rd name asks for more than the 64 slots lent: the number alone
    ∷ (answer_of (one_page ++ singles 33), line 2 0x12)
    -- 10, and 19 before it
    ∷ (answer_of nine_pages, line 2 0x0a)
    ∷ (answer_of (nine_pages ++ 10 ∷ []), line 2 0x13)
    -- no input
    ∷ (answer_of [], line 2 0x13)
    ∷ []

pub all_hold : hold_lists rows ≡ true
unfolding rows hold_lists singles naming allocating nine_pages digits worked bytes_of value_of over write same mixed folded chunks hash_of
    payload_of reaches headed holds home probe lookup never filled placed stored_hash moved_one moved room_of widened with_room spare_after
    Table.slot_count Table.active_ok Table.filled_in Table.headers_in Table.count_ok Table.slots_ok Table.sound_of header_of
    Pages.grow_of Pages.gap_of Pages.holds Pages.block Pages.pushed Pages.fitted Pages.allocated pages_of numbers_of Heap.sound_of Op.rows
    decoded_by decode_of check_of used needs short set_regs set_pc set_frames set_memory set_pages set_bytes start_of entries_of counts rising tables_ok
    image_ok ends_in_halt below word_test word_tests image_tests within effect_of word_effect provided forward addressed loaded stored8 returned
    block_to apply fetched asked unless limited step after go root entered stored Names.filled Names.as_given Names.allocates Names.boxed Names.tabled
    Names.fresh Names.known Names.interned sizes memory_of view with_pages with_names traced with_frames with_regs ran idle runs hosted laid
    run_leaves host_leaves granted host_call run_call act frames_ok heap_ok slots_ok returns_ok frames_belong pages_belong names_belong tests tests_by failing
    tried perform first_page first_memory blank begin starts start Digits.value_of_digit Digits.all_digits Digits.read_on Digits.numbers
    Lines.before Lines.lines_of Lines.whole Lines.up_to Lines.count_ok Lines.line_ok rest_ok lines_ok text_ok head_in head_of adds section_of names_of digit_of_value
    hex_of end_line register_line register_lines state_line report_of refusal_of sections_fit room_for intern_on intern_all reply_text run_text ready_text
    started_text image_text answer_of
all_hold = refl
