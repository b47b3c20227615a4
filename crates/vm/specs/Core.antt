-- What a machine holds in use, without the lent buffers, and its limits. Definitions only.
--
-- A core has nothing of the lent heap past the pushed bytes and nothing of the lent slots past the active ones. So no instruction and no
-- allocation, which are defined on it, can show what is lent past them. A core meets what is lent where `Machine` takes it out (`memory_of`,
-- `view`) and lays it back (`with_pages` ..), and where `limited` (`Run`) and `granted` (`Machine`) hold it to the sizes: mistakes there that
-- would break demand 3 are must-fail edits.
use Rattle.std.specs.Prelude.{ℕ, ◌≤◌, Bool, ◌||◌, List, [], ◌∷◌, length, set, leb, eqb}
use Rattle.std.proofs.Math.Option.{Option}
use Rattle.gc.specs.Pages.{Pages}
use Rattle.program.specs.Image.{Test, test, failing}

-- what programs and host calls allocate in: the pushed pages, the active slots, the count of names
pub record Memory : Type 0 where
  pub pages : Pages
  pub slots : List ℕ
  pub names : ℕ

-- the registers, the pc, the frames in use ('the first depth frames are in use'), and the memory
pub record Core : Type 0 where
  pub regs : List ℕ
  pub pc : ℕ
  pub frames : List ℕ
  pub memory : Memory

-- how many frames, heap bytes and slots are lent, or in use
pub record Sizes : Type 0 where
  pub frames : ℕ
  pub heap : ℕ
  pub slots : ℕ

unfoldable pub used : Core → Sizes
used c = record { frames = length c.frames; heap = length c.memory.pages.bytes; slots = length c.memory.slots }

-- what a use needs of each size, in the order in which it is refused: 3, 'depth equals frames'; 18, 'table must grow past the slots lent'; 2,
-- 'allocation refused'. Interning gives 18 before 2
unfoldable pub needs : Sizes → Sizes → List Test
needs lent need =
    test (leb need.frames lent.frames) 3
    ∷ test (leb need.slots lent.slots) 18
    ∷ test (leb need.heap lent.heap) 2
    ∷ []

-- the number with which a use that does not fit what is lent ends
unfoldable pub short : Sizes → Sizes → Option ℕ
short lent need = failing (needs lent need)

-- the numbers of running out: an allocation refused, no frame, the budget completed, no slots
unfoldable pub spent : ℕ → Bool
spent e = eqb e 2 || eqb e 3 || eqb e 5 || eqb e 18

-- at least as many frames, heap bytes and slots
infix 20 ◌⊑◌
pub record ◌⊑◌ (a b : Sizes) : Type 0 where
  pub frames : a.frames ≤ b.frames
  pub heap : a.heap ≤ b.heap
  pub slots : a.slots ≤ b.slots

-- ---- with one part changed: each setter names every field of its record, and nothing else does

abbrev pub need_frames : ℕ → Sizes → Sizes
need_frames n u = record { frames = n; heap = u.heap; slots = u.slots }

abbrev pub need_heap : ℕ → Sizes → Sizes
need_heap n u = record { frames = u.frames; heap = n; slots = u.slots }

abbrev pub need_slots : ℕ → Sizes → Sizes
need_slots n u = record { frames = u.frames; heap = u.heap; slots = n }

unfoldable pub set_regs : List ℕ → Core → Core
set_regs r c = record { regs = r; pc = c.pc; frames = c.frames; memory = c.memory }

unfoldable pub set_pc : ℕ → Core → Core
set_pc p c = record { regs = c.regs; pc = p; frames = c.frames; memory = c.memory }

unfoldable pub set_frames : List ℕ → Core → Core
set_frames f c = record { regs = c.regs; pc = c.pc; frames = f; memory = c.memory }

unfoldable pub set_memory : Memory → Core → Core
set_memory l c = record { regs = c.regs; pc = c.pc; frames = c.frames; memory = l }

abbrev pub set_reg : ℕ → ℕ → Core → Core
set_reg r v c = set_regs (set c.regs r v) c

unfoldable pub set_pages : Pages → Memory → Memory
set_pages p l = record { pages = p; slots = l.slots; names = l.names }

unfoldable pub set_bytes : List ℕ → Pages → Pages
set_bytes b p = record { base = p.base; bytes = b; last = p.last; len = p.len }
