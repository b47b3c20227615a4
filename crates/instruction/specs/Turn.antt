-- One instruction on state and buffers: the position that changes from one to the next, and the machine that it leaves. Definitions only.
use Rattle.std.specs.Prelude.{ℕ, ◌-◌, ◌%◌, ◌≤◌, cond, ◌&&◌, List, [], length, ◌==◌}
use Rattle.string.specs.Payload.{reaches}
use Rattle.gc.specs.declared.Gc.{Gc}
use Rattle.gc.specs.declared.Heap.{Heap}
use Rattle.gc.specs.Lent.{InHeap}
use Rattle.effects.specs.declared.Effect.{Effect}
use Rattle.effects.specs.Stops.{number_of_stop, IsAnomaly}
use Rattle.vm.specs.declared.State.{State}
use Rattle.instruction.specs.declared.frames.Frames.{Frames}
use Rattle.instruction.specs.declared.Turn.{Turn}
use Rattle.instruction.specs.declared.Turn.TheVariants.{Next, Halt, Stop, Unlisted}
use Rattle.std.specs.Prelude as std
use Rattle.vm.specs.Run.{Step, next, halted, stop, apply, limited}
use Rattle.vm.specs.Machine.{Lent, lend_run, Machine, sizes, keep_regs, keep_pc, keep_depth, keep_gc, view, laid}
use Rattle.vm.specs.Told.{machine_of}

-- ---- what changes from instruction to instruction

pub record Position : Type 0 where
  pub pc : ℕ
  pub depth : ℕ
  pub gc : Gc

-- a position with one part changed
abbrev pub at_pc : ℕ → Position → Position
at_pc x at = record { pc = x; depth = at.depth; gc = at.gc }

abbrev pub at_depth : ℕ → Position → Position
at_depth x at = record { pc = at.pc; depth = x; gc = at.gc }

abbrev pub at_gc : Gc → Position → Position
at_gc x at = record { pc = at.pc; depth = at.depth; gc = x }

-- a state at a position, the rest as in s; and the position of a state. The loop keeps its registers apart
abbrev pub state_at : State → Position → List ℕ → State
state_at s at regs = keep_regs regs (keep_pc at.pc (keep_depth at.depth (keep_gc at.gc s)))

abbrev pub position_of : State → Position
position_of s = record { pc = s.pc; depth = s.depth; gc = s.gc }

abbrev pub machine_at : State → Position → List ℕ → Lent → Machine
machine_at s at regs l = machine_of (state_at s at regs) l

-- a position that can belong to the buffers
pub record Fitting (at : Position) (l : Lent) : Type 0 where
  pub deep : at.depth ≤ length l.frames
  pub sound : InHeap at.gc l.heap

-- the position of a pc, frames and heap; and the machine over the buffers in which frames and heap lie
abbrev pub standing : ℕ → Frames → Heap → Position
standing pc f h = record { pc = pc; depth = f.depth; gc = h.gc }

abbrev pub lend_in : Frames → Heap → Lent → Lent
lend_in f h l = lend_run f.places.now h.bytes.now l

abbrev pub machine_in : State → ℕ → List ℕ → Frames → Heap → Lent → Machine
machine_in s pc regs f h l = machine_at s (standing pc f h) regs (lend_in f h l)

-- ---- an instruction

-- the place in the heap of the 8 bytes at an address, if `Load` and `Store` reach them
unfoldable pub place_in : Gc → ℕ → std.Option ℕ
place_in g a = cond (a % 8 == 0 && reaches g.base g.pushed a 8) (std.Some (a - g.base)) std.None

-- how an instruction goes, and the machine that it leaves
pub data How : Type 0 where
  goes : How
  halts : How
  stops : ℕ → How

pub record Turned : Type 0 where
  pub how : How
  pub machine : Machine

unfoldable pub turned : Machine → Step → Turned
turned m (next d) = record { how = goes; machine = laid [] d m }
turned m halted = record { how = halts; machine = m }
turned m (stop e d) = record { how = stops e; machine = laid [] d m }

unfoldable pub turn : Effect → Machine → Turned
turn e m = turned m (limited (sizes m.lent) (view m) (apply e (view m)))

-- as the code answers it, with what it leaves
abbrev pub turn_of : State → ℕ → List ℕ → Frames → Heap → Lent → Turn → Turned
turn_of s pc regs f h l (Next to) = record { how = goes; machine = machine_in s to regs f h l }
turn_of s pc regs f h l Halt = record { how = halts; machine = machine_in s pc regs f h l }
turn_of s pc regs f h l (Stop why) = record { how = stops (number_of_stop why); machine = machine_in s pc regs f h l }
turn_of s pc regs f h l (Unlisted number) = record { how = stops number; machine = machine_in s pc regs f h l }

-- a turn that stops by an anomaly, if it stops
abbrev pub IsListed : Turn → Type 0
IsListed (Next to) = Unit {0}
IsListed Halt = Unit {0}
IsListed (Stop why) = IsAnomaly why
IsListed (Unlisted number) = ⊥
