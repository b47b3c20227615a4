-- The premises of demand 3 can be met, and its cut too: two machines of different sizes, their buffers not zero, started on one image and base;
-- and a run in which the smaller one is out of frames after a step. By computation. Assumes nothing.
use mathlib.Core.Path.{◌≡◌, refl}
use mathlib.Core.Bool.{true}
use mathlib.Core.List.{List, [], ◌∷◌}
use Prim.Native.Nat.{ℕ, ◌*◌}
use lib.Dec.{lit≤}
use lib.ListN.{replicate}
use Rattle.memory.specs.Bytes.{bytes_of}
use Rattle.memory.specs.Lists.{over, write}
use Rattle.str_table.specs.Sound as Table
use Rattle.gc.specs.Metadata.{header_of}
use Rattle.gc.specs.Pages as Pages
use Rattle.gc.specs.Lent.{pages_of, numbers_of}
use Rattle.gc.specs.Lent as Heap
use Rattle.op.specs.Decode as Op
use Rattle.op.specs.Decode.{decoded_by, decode_of}
use Rattle.op.specs.Reach.{check_of}
use Rattle.program.specs.Image.{Image, Tables, rising, tables_ok, image_ok, ends_in_halt, below, word_test, word_tests, counts, image_tests, failing}
use Rattle.effects.specs.Effect.{effect_of, word_effect}
use Rattle.vm.specs.Core.{◌⊑◌, used, needs, short, spent, set_frames, set_pc, set_pages, set_bytes}
use Rattle.vm.specs.Run.{provided, forward, apply, fetched, asked, unless, limited, step, after, go, root, entered}
use Rattle.vm.specs.Names.{filled, boxed}
use Rattle.vm.specs.Machine.{Lent, sizes, memory_of, view, with_pages, with_frames, traced, Call, run, ended, ran_out, ran, runs, run_call}
use Rattle.vm.specs.Machine.{act, frames_ok, heap_ok, slots_ok, returns_ok, frames_belong, pages_belong, tests_by, tests, tried, perform, begun}
use Rattle.vm.specs.Machine.{first_page, first_memory, blank, begin, starts, start}
use Rattle.agreement.specs.Demand3.{Pair, Cut, CutAt, Agree, Demand3}
use Rattle.agreement.proofs.Demand3.{demand3}

-- Call 0; Halt
abbrev calling : Image
calling =
    let none : Tables = record { firsts = []; ends = []; entries = [] } in
    record { code = 39 ∷ 59 ∷ []; globals = []; switches = none; lookups = none; defaults = [] }

-- so many frames, k pages, 64 * k slots, each element v
abbrev lent : ℕ → ℕ → ℕ → Lent
lent frames k v = record {
  frames = replicate frames v;
  heap = replicate (4096 * k) v;
  slots = replicate (64 * k) v;
  spare = replicate (64 * k) v;
}

abbrev small : Lent
small = lent 2 1 7

abbrev large : Lent
large = lent 3 2 9

small_starts : start calling 4096 small ≡ begun (begin 4096 small)
unfolding start starts failing image_tests frames_ok heap_ok slots_ok image_ok tables_ok rising ends_in_halt below word_test word_tests counts check_of
    Op.rows decoded_by decode_of Table.slot_count
small_starts = refl

large_starts : start calling 4096 large ≡ begun (begin 4096 large)
unfolding start starts failing image_tests frames_ok heap_ok slots_ok image_ok tables_ok rising ends_in_halt below word_test word_tests counts check_of
    Op.rows decoded_by decode_of Table.slot_count
large_starts = refl

-- more of each
wider : sizes small ⊑ sizes large
unfolding sizes
wider = record { frames = lit≤ tt; heap = lit≤ tt; slots = lit≤ tt }

-- so the theorem speaks of them
pub premises_met : (calls : List Pair) → Agree (begin 4096 small) (begin 4096 large) calls
unfolding Demand3
premises_met calls = demand3 calling 4096 small large (begin 4096 small) (begin 4096 large) small_starts large_starts wider calls

-- the second Call finds no frame
abbrev called : Call
called = run calling 10

out_of_frames : (perform called (begin 4096 small)).answer ≡ ended 3 0 1
unfolding perform tried tests tests_by failing image_tests frames_ok heap_ok image_ok tables_ok rising ends_in_halt below word_test word_tests counts check_of
    Op.rows decoded_by decode_of frames_belong returns_ok pages_belong Heap.sound_of begin blank with_frames traced with_pages first_memory first_page
    boxed filled set_pages set_bytes Pages.allocated Pages.fitted Pages.holds Pages.block Pages.gap_of Pages.grow_of Pages.pushed numbers_of header_of
    bytes_of over write act run_call runs ran go entered root set_frames set_pc step fetched word_effect effect_of apply provided forward asked unless
    limited short needs used after sizes view memory_of pages_of
out_of_frames = refl

-- .. and the larger one, cut after that step, holds the same
pub cut_met : CutAt calling (perform called (begin 4096 small)).machine (begin 4096 large) (ended 3 0 1)
unfolding Agree Cut ran_out spent
cut_met =
    let agree = premises_met (record { call = called; more = 0 } ∷ []) in
    let out : ran_out (perform called (begin 4096 small)).answer ≡ true = rw out_of_frames refl in
    rw out_of_frames at (agree.2 out)
