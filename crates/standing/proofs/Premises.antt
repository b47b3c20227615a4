-- The premises of `standing` can be met, and that the code is as long cannot be left out: a `Call` done on code of two words leaves a frame
-- in use, and with it code of one word is refused with 9. By computation. Assumes nothing.
use mathlib.Core.Path.{◌≡◌, refl}
use mathlib.Core.List.{List, [], ◌∷◌}
use Prim.Native.Nat.{ℕ, ◌+◌, ◌^◌}
use lib.ListN.{replicate}
use Rattle.memory.specs.Bytes.{bytes_of}
use Rattle.memory.specs.Lists.{over, write}
use Rattle.str_table.specs.Sound as Table
use Rattle.gc.specs.Metadata.{header_of}
use Rattle.gc.specs.Pages as Pages
use Rattle.gc.specs.Lent.{pages_of, numbers_of}
use Rattle.gc.specs.Lent as Heap
use Rattle.op.specs.Decode as Op
use Rattle.op.specs.Decode.{decoded_by, decode_of}
use Rattle.op.specs.Reach.{check_of}
use Rattle.program.specs.Image.{Image, Tables, counts, rising, tables_ok, image_ok, ends_in_halt, below, word_test, word_tests, image_tests, failing}
use Rattle.effects.specs.Effect.{effect_of, word_effect}
use Rattle.vm.specs.Core.{used, needs, short, set_pc, set_frames, set_pages, set_bytes}
use Rattle.vm.specs.Run.{apply, fetched, asked, unless, limited, step, after, go, root, entered, stored}
use Rattle.vm.specs.Names as Names
use Rattle.vm.specs.Machine.{Lent, Machine, sizes, memory_of, view, with_pages, traced, with_frames, with_regs, laid, run, refused, ran, runs, run_leaves}
use Rattle.vm.specs.Machine.{run_call, act, frames_ok, heap_ok, slots_ok, returns_ok, frames_belong, pages_belong, tests_by, tests, tried, perform, answers_to}
use Rattle.vm.specs.Machine.{first_page, first_memory, blank, begin, begun, starts, start}
use Rattle.standing.specs.Standing.{words_after, words_for, Stands, Standing}
use Rattle.standing.proofs.Standing.{standing}

abbrev image : List ℕ → Image
image code =
    let none : Tables = record { firsts = []; ends = []; entries = [] } in
    record { code = code; globals = []; switches = none; lookups = none; defaults = [] }

-- Call 1; Halt
abbrev longer : Image
longer = image ((39 + 2 ^ 32) ∷ 59 ∷ [])

-- Halt
abbrev shorter : Image
shorter = image (59 ∷ [])

abbrev lent : Lent
lent = record { frames = replicate 2 7; heap = replicate 4096 7; slots = replicate 64 7; spare = replicate 64 7 }

abbrev machine : Machine
machine = begin 4096 lent

starts-on : start longer 4096 lent ≡ begun machine
unfolding start starts failing image_tests frames_ok heap_ok slots_ok image_ok tables_ok rising ends_in_halt below word_tests word_test counts check_of
    Op.rows decoded_by decode_of Table.slot_count
starts-on = refl

-- so the theorem speaks of it: after that run code of two words is needed
pub premises_met : Stands 2 (answers_to (run longer 1 ∷ []) machine).machine
unfolding Standing words_for words_after
premises_met = standing longer 4096 lent machine starts-on (run longer 1 ∷ [])

pub shorter_refused : (perform (run shorter 1) (answers_to (run longer 1 ∷ []) machine).machine).answer ≡ refused 9
unfolding bytes_of over write header_of Pages.gap_of Pages.holds Pages.block Pages.fitted Pages.allocated pages_of
    numbers_of Heap.sound_of Op.rows decoded_by decode_of check_of used needs short set_pc set_frames set_pages set_bytes counts rising tables_ok
    image_ok ends_in_halt below word_test word_tests image_tests failing effect_of word_effect apply fetched asked unless limited step after go root
    entered stored Names.filled Names.boxed sizes memory_of view with_pages traced with_frames with_regs laid ran runs run_leaves run_call act frames_ok
    heap_ok returns_ok frames_belong pages_belong tests tests_by tried perform answers_to first_page first_memory blank begin
shorter_refused = refl
