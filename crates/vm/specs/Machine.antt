-- The machine: its state and the lent buffers, the calls, their refusals in the paper's order, and the start. Definitions only.
use Rattle.std.specs.Prelude.{ℕ, zero, suc, ◌+◌, ◌-◌, ◌*◌, ◌%◌, ◌^◌, Bool, true, false, ◌&&◌, List, [], ◌∷◌, ◌++◌, length, take, drop, set, replicate, leb, ltb, eqb}
use Rattle.std.specs.Prelude as std
use Rattle.std.proofs.Math.Option.{Option, none, some}
use Rattle.memory.specs.Lists.{over}
use Rattle.string.specs.Payload.{small_name}
pub use Rattle.string.specs.Payload.{small_ok}
use Rattle.str_table.specs.Grow.{spare_after}
use Rattle.str_table.specs.Sound as Table
use Rattle.gc.specs.Pages.{Pages}
use Rattle.gc.specs.Lent.{page_size, pages_of, numbers_of}
use Rattle.gc.specs.Lent as Heap
use Rattle.op.specs.Layout.{is_alignment}
use Rattle.str_table.specs.declared.StrTable.{StrTable}
use Rattle.gc.specs.declared.Gc.{Gc}
use Rattle.vm.specs.declared.State.{State}
use Rattle.vm.specs.Core.{Core, Memory, Sizes, used, short, spent, set_frames, set_memory}
use Rattle.program.specs.Image.{Image, Test, test, below, image_tests, failing}
use Rattle.vm.specs.Run.{Ran, ends, go, root, entered, stored}
use Rattle.vm.specs.Names.{Given, allocates, boxed, optional, interned}

-- ---- the state and the lent buffers

pub record Lent : Type 0 where
  pub frames : List ℕ
  pub heap : List ℕ
  pub slots : List ℕ
  pub spare : List ℕ

pub record Machine : Type 0 where
  pub state : State
  pub lent : Lent

unfoldable pub sizes : Lent → Sizes
sizes l = record { frames = length l.frames; heap = length l.heap; slots = length l.slots }

-- ---- with one part changed: each setter names every field of its record, and nothing else does

abbrev pub lend_frames : List ℕ → Lent → Lent
lend_frames x l = record { frames = x; heap = l.heap; slots = l.slots; spare = l.spare }

abbrev pub lend_heap : List ℕ → Lent → Lent
lend_heap x l = record { frames = l.frames; heap = x; slots = l.slots; spare = l.spare }

abbrev pub lend_slots : List ℕ → Lent → Lent
lend_slots x l = record { frames = l.frames; heap = l.heap; slots = x; spare = l.spare }

abbrev pub lend_spare : List ℕ → Lent → Lent
lend_spare x l = record { frames = l.frames; heap = l.heap; slots = l.slots; spare = x }

-- what a start writes, what a run is lent, and an interning; and nothing
abbrev pub lend_begin : List ℕ → List ℕ → Lent → Lent
lend_begin frames heap l = lend_frames frames (lend_heap heap l)

abbrev pub lend_run : List ℕ → List ℕ → Lent → Lent
lend_run frames heap l = lend_frames frames (lend_heap heap l)

abbrev pub lend_names : List ℕ → List ℕ → List ℕ → Lent → Lent
lend_names heap slots spare l = lend_heap heap (lend_slots slots (lend_spare spare l))

abbrev pub unlent : Lent
unlent = record { frames = []; heap = []; slots = []; spare = [] }

abbrev pub keep_regs : List ℕ → State → State
keep_regs x s = record { regs = x; pc = s.pc; depth = s.depth; gc = s.gc; strings = s.strings }

abbrev pub keep_pc : ℕ → State → State
keep_pc x s = record { regs = s.regs; pc = x; depth = s.depth; gc = s.gc; strings = s.strings }

abbrev pub keep_depth : ℕ → State → State
keep_depth x s = record { regs = s.regs; pc = s.pc; depth = x; gc = s.gc; strings = s.strings }

abbrev pub keep_gc : Gc → State → State
keep_gc x s = record { regs = s.regs; pc = s.pc; depth = s.depth; gc = x; strings = s.strings }

abbrev pub keep_strings : StrTable → State → State
keep_strings x s = record { regs = s.regs; pc = s.pc; depth = s.depth; gc = s.gc; strings = x }

-- ---- the core of a machine: of each buffer the part in use

unfoldable pub memory_of : Machine → Memory
memory_of m = record {
  pages = pages_of m.state.gc m.lent.heap;
  slots = take m.state.strings.active m.lent.slots;
  names = m.state.strings.len;
}

unfoldable pub view : Machine → Core
view m = record { regs = m.state.regs; pc = m.state.pc; frames = take m.state.depth m.lent.frames; memory = memory_of m }

-- the state of a machine that holds a core: its numbers are those of the core
unfoldable pub state_of : Core → State
state_of c =
    record {
      regs = c.regs;
      pc = c.pc;
      depth = length c.frames;
      gc = numbers_of c.memory.pages;
      strings = record { active = length c.memory.slots; len = c.memory.names };
    }

-- ---- a core laid back over state and buffers, part by part; what is past the parts in use stays

unfoldable pub with_pages : Pages → Machine → Machine
with_pages p m = record { state = keep_gc (numbers_of p) m.state; lent = lend_heap (over p.bytes m.lent.heap) m.lent }

-- 'a spare slice as long (after growth it begins with the old slots, otherwise untouched, as are slots past the active ones)'
unfoldable pub with_names : List ℕ → ℕ → Machine → Machine
with_names slots names m =
    let active = m.state.strings.active in
    record {
      state = keep_strings (record { active = length slots; len = names }) m.state;
      lent = lend_slots (over slots m.lent.slots)
          (lend_spare (spare_after (ltb active (length slots)) (take active m.lent.slots) m.lent.spare) m.lent);
    }

-- one part of each core of a trail, written over a buffer in turn: what is past the part in use keeps what was last written there
unfoldable pub traced : (Core → List ℕ) → List Core → List ℕ → List ℕ
traced part [] old = old
traced part (d ∷ ds) old = traced part ds (over (part d) old)

abbrev pub frames_of : Core → List ℕ
frames_of c = c.frames

unfoldable pub with_frames : List Core → List ℕ → Machine → Machine
with_frames trail frames m = record {
  state = keep_depth (length frames) m.state;
  lent = lend_frames (over frames (traced frames_of trail m.lent.frames)) m.lent;
}

unfoldable pub with_regs : List ℕ → ℕ → Machine → Machine
with_regs regs pc m = record { state = keep_regs regs (keep_pc pc m.state); lent = m.lent }

-- all of these but the names, which a run leaves alone
unfoldable pub laid : List Core → Core → Machine → Machine
laid trail c m = with_regs c.regs c.pc (with_frames trail c.frames (with_pages c.memory.pages m))

-- ---- the calls

-- calls on the state and frame 0 alone
pub data Setting : Type 0 where
  reset : Setting
  put_pc : ℕ → Setting
  put_reg : ℕ → ℕ → Setting

-- calls that allocate
pub data Host : Type 0 where
  allocate : ℕ → ℕ → ℕ → Host  -- kind, align, size
  option : std.Option ℕ → Host
  intern : List ℕ → Host
  intern_small : ℕ → ℕ → Host  -- length, word

pub data Call : Type 0 where
  run : Image → ℕ → Call
  setting : Setting → Call
  host : Host → Call

-- 'Answers are all numbers, pcs, steps and values returned'
pub data Answer : Type 0 where
  ended : ℕ → ℕ → ℕ → Answer  -- number, pc, steps
  value : ℕ → Answer
  done : Answer
  refused : ℕ → Answer

unfoldable pub ran_out : Answer → Bool
ran_out (ended e pc steps) = spent e
ran_out (value v) = false
ran_out done = false
ran_out (refused e) = spent e

pub record Called : Type 0 where
  pub answer : Answer
  pub machine : Machine

-- ---- what a call makes of a core, within what is lent

-- a core with the cores on the way to it, whose parts a run wrote to the buffers
pub record Acted : Type 0 where
  pub answer : Answer
  pub core : Core
  pub trail : List Core

-- a run from the core c, on code of n words: frame 0 is written first, also where none is in use
unfoldable pub ran : ℕ → Core → Ran → Acted
ran n c r = record {
  answer = ended r.ending r.core.pc r.steps;
  core = stored r.ending c.pc r.core;
  trail = set_frames (root n ∷ []) c ∷ r.trail;
}

unfoldable pub idle : Core → Ran
idle c = ends 0 c 0

-- 'Empty code returns 0 and writes nothing'; a pc past the end returns 0 with no step
unfoldable pub runs : Sizes → Image → ℕ → ℕ → Core → Acted
runs lent im b zero c = record { answer = ended 0 c.pc 0; core = c; trail = [] }
runs lent im b (suc k) c =
    elim (ltb c.pc (suc k)) [
      | true ↦ ran (suc k) c (go lent im b (entered (suc k) c))
      | false ↦ ran (suc k) c (idle (entered (suc k) c))
    ]

unfoldable pub hosted : Host → Memory → Given
hosted (allocate kind align n) l = allocates kind n l
hosted (option o) l = optional o l
hosted (intern s) l = interned s l
hosted (intern_small n w) l = interned (small_name n w) l

-- '`reset` sets pc to 2^64−1, depth 1 and frame 0 to 2^64−1'
abbrev pub unset : ℕ
unset = 2 ^ 64 - 1

unfoldable pub with_setting : Setting → Machine → Machine
with_setting reset m = with_regs m.state.regs unset (with_frames [] (unset ∷ []) m)
with_setting (put_pc p) m = with_regs m.state.regs p m
with_setting (put_reg r v) m = with_regs (set m.state.regs r v) m.state.pc m

-- a run leaves registers, pc, frames and pages; a host call the pages, and an interning the names too
unfoldable pub run_leaves : Machine → Acted → Machine
run_leaves m a = laid a.trail a.core m

unfoldable pub host_leaves : Host → Machine → Memory → Machine
host_leaves (allocate kind align n) m l = with_pages l.pages m
host_leaves (option o) m l = with_pages l.pages m
host_leaves (intern s) m l = with_names l.slots l.names (with_pages l.pages m)
host_leaves (intern_small n w) m l = with_names l.slots l.names (with_pages l.pages m)

-- what is given, if it fits what is lent; else its number, and everything as it was
unfoldable pub granted : Option ℕ → Host → Machine → Given → Called
granted none k m g = record { answer = value g.value; machine = host_leaves k m g.memory }
granted (some e) k m g = record { answer = refused e; machine = m }

unfoldable pub host_call : Host → Machine → Given → Called
host_call k m g = granted (short (sizes m.lent) (used (set_memory g.memory (view m)))) k m g

unfoldable pub run_call : Image → ℕ → Machine → Called
run_call im b m =
    let a = runs (sizes m.lent) im b (length im.code) (view m) in
    record { answer = a.answer; machine = run_leaves m a }

-- a call that no test refuses
unfoldable pub act : Call → Machine → Called
act (run im b) m = run_call im b m
act (setting k) m = record { answer = done; machine = with_setting k m }
act (host k) m = host_call k m (hosted k (memory_of m))

-- ---- refusals, in the paper's order

-- 10: 'frames 1–16,384; heap 1–256 whole pages; slots a power of two, 64–4,096, and a spare slice as long; B a multiple of 4,096 from
-- 4,096, heap end at most 2^48'
unfoldable pub frames_ok : ℕ → Bool
frames_ok n = leb 1 n && leb n 16384

-- of a base and so many bytes
unfoldable pub heap_ok : ℕ → ℕ → Bool
heap_ok base n =
    (leb page_size n && (leb n (256 * page_size) && eqb (n % page_size) 0))
    && (leb page_size base && (eqb (base % page_size) 0 && leb (base + n) (2 ^ 48)))

-- of so many slots and spare slots
unfoldable pub slots_ok : ℕ → ℕ → Bool
slots_ok n spare = Table.slot_count n && eqb spare n

-- 9: 'for a run of non-empty code, a frame in use other than frame 0 whose return isn't below the last word's place'. A frame holds the
-- place of its `Call`
unfoldable pub returns_ok : ℕ → List ℕ → Bool
returns_ok zero frames = true
returns_ok (suc last) frames = below last (drop 1 frames)

-- 9: 'depth above the frames', and the above of the frames in use
unfoldable pub frames_belong : ℕ → State → Lent → Bool
frames_belong n s l = leb s.depth (length l.frames) && returns_ok n (take s.depth l.frames)

-- 9: pages and last page; and of an interning the table. Definitions of the crates below
unfoldable pub pages_belong : State → Lent → Bool
pages_belong s l = Heap.sound_of s.gc (length l.heap)

unfoldable pub names_belong : State → Lent → Bool
names_belong s l = pages_belong s l && Table.sound_of s.gc.base s.gc.pushed s.strings l.slots

-- what a call finds of state and buffers: of 10, that frames, heap and slots have their sizes; of 9, that the frames in use belong to code of so
-- many words, that the pages belong to the heap, and with them the names to the slots
pub record Found : Type 0 where
  pub frames_fit : Bool
  pub heap-fits : Bool
  pub slots_fit : Bool
  pub frames : ℕ → Bool
  pub pages : Bool
  pub names : Bool

abbrev pub found : State → Lent → Found
found s l = record {
  frames_fit = frames_ok (length l.frames);
  heap-fits = heap_ok s.gc.base (length l.heap);
  slots_fit = slots_ok (length l.slots) (length l.spare);
  frames = λ n. frames_belong n s l;
  pages = pages_belong s l;
  names = names_belong s l;
}

-- both internings
abbrev pub name_tests : Found → List Test
name_tests f = test (f.heap-fits && f.slots_fit) 10 ∷ test f.names 9 ∷ []

-- 'Every host call first gives 10 for the slices it lends. Interning: 9, 17, the value if found, .. 18, 2. Allocating: 13 for kind or align, 9, 2.
-- An option: 9, 2. Setting a register: 13. Setting pc and reset have nothing further'; a run: the loader's order, 'then 9'
unfoldable pub tests_by : Call → Found → List Test
tests_by (run im b) f = image_tests (f.frames_fit && f.heap-fits) im ++ (test (f.frames (length im.code) && f.pages) 9 ∷ [])
tests_by (setting reset) f = test f.frames_fit 10 ∷ []
tests_by (setting (put_pc p)) f = []
tests_by (setting (put_reg r v)) f = test (ltb r 32) 13 ∷ []
tests_by (host (allocate kind align n)) f = test f.heap-fits 10 ∷ test (ltb kind 4 && is_alignment align) 13 ∷ test f.pages 9 ∷ []
tests_by (host (option o)) f = test f.heap-fits 10 ∷ test f.pages 9 ∷ []
tests_by (host (intern n)) f = name_tests f
tests_by (host (intern_small n w)) f = name_tests f ++ (test (small_ok n w) 17 ∷ [])

unfoldable pub tests : Call → State → Lent → List Test
tests k s l = tests_by k (found s l)

-- a refused call leaves state and buffers unchanged
unfoldable pub tried : Option ℕ → Call → Machine → Called
tried none k m = act k m
tried (some e) k m = record { answer = refused e; machine = m }

-- one call: 'determines the answer and every lent slice after the call, for refused calls as well'
unfoldable pub perform : Call → Machine → Called
perform k m = tried (failing (tests k m.state m.lent)) k m

-- ---- a list of calls

-- all answers to a list of calls, and the machine after it: 'each call gets the state last returned and the same buffers, whole and as last left,
-- and nobody else writes them'
pub record Answers : Type 0 where
  pub answers : List Answer
  pub machine : Machine

unfoldable pub answers_to : List Call → Machine → Answers
answers_to [] m = record { answers = []; machine = m }
answers_to (k ∷ ks) m =
    let r = answers_to ks (perform k m).machine in
    record { answers = (perform k m).answer ∷ r.answers; machine = r.machine }

-- ---- the start

pub data Started : Type 0 where
  declined : ℕ → Started
  begun : Machine → Started

unfoldable pub first_page : ℕ → Memory
first_page base = record { pages = record { base = base; bytes = replicate page_size 0; last = 0; len = 0 }; slots = []; names = 0 }

-- '`Vm::new_in` boxes [0, 0]'
unfoldable pub first_memory : ℕ → Memory
first_memory base = (boxed 0 0 (first_page base)).memory

-- nothing in use
unfoldable pub blank : ℕ → Lent → Machine
blank base l =
    record {
      state = record {
        regs = replicate 32 0;
        pc = 0;
        depth = 0;
        gc = record { base = base; pushed = 0; page = 0; len = 0 };
        strings = record { active = 0; len = 0 };
      };
      lent = l;
    }

-- registers and pc 0, frame 0 'as `reset` does, whatever was lent', page 0 with the box of none; slots and spare as they were
unfoldable pub begin : ℕ → Lent → Machine
begin base l = with_frames [] (unset ∷ []) (with_pages (first_memory base).pages (blank base l))

unfoldable pub starts : Option ℕ → ℕ → Lent → Started
starts none base l = begun (begin base l)
starts (some e) base l = declined e

-- what 10 says of the buffers of a start
abbrev pub buffers_ok : ℕ → Lent → Bool
buffers_ok base l = frames_ok (length l.frames) && (heap_ok base (length l.heap) && slots_ok (length l.slots) (length l.spare))

-- the loader's refusals, 'Order: 10, 11, 16, then word by word 12, 13, 14, 15'; there is no state yet, and so no 9
unfoldable pub start : Image → ℕ → Lent → Started
start im base l = starts (failing (image_tests (buffers_ok base l) im)) base l
