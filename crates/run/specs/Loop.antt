-- A run as its code goes: what the loop keeps, and what is left of a run. Definitions only.
use Rattle.std.specs.Prelude.{ℕ, ◌+◌, ◌<◌, cond, ◌||◌, List, take, ◌==◌}
use Rattle.program.specs.Image.{Image}
use Rattle.vm.specs.declared.State.{State}
use Rattle.gc.specs.declared.Heap.{Heap}
use Rattle.instruction.specs.declared.frames.Frames.{Frames}
use Rattle.instruction.specs.Turn.{Position, machine_in, Fitting}
use Rattle.anomaly.specs.declared.End.{End}
use Rattle.anomaly.specs.Table.{number_of_end, pc_of_end, steps_of_end}
use Rattle.vm.specs.Run.{Ran, go}
use Rattle.vm.specs.Machine.{Lent, Machine, sizes, view, laid}
use Rattle.vm.specs.Loaded.{Returns}

-- ---- what the loop keeps

-- a position that can belong to the buffers, inside the code of n words
pub record Going (n : ℕ) (at : Position) (l : Lent) : Type 0 where
  pub here : at.pc < n
  pub returns : Returns n (take at.depth l.frames)
  pub fitting : Fitting at l

-- ---- a run

-- how it ended, the steps completed, and the machine that it leaves
pub record Finished : Type 0 where
  pub ending : ℕ
  pub steps : ℕ
  pub machine : Machine

unfoldable pub finishes : ℕ → Machine → Ran → Finished
finishes n m r = record { ending = r.ending; steps = n + r.steps; machine = laid r.trail r.core m }

-- what is left of a run that has completed n steps and may complete b more
unfoldable pub finished : Image → ℕ → ℕ → Machine → Finished
finished im b n m = finishes n m (go (sizes m.lent) im b (view m))

abbrev pub finished_in : State → List ℕ → Frames → Heap → Lent → End → Finished
finished_in s regs f h l e = record { ending = number_of_end e; steps = steps_of_end e; machine = machine_in s (pc_of_end e) regs f h l }

-- the pc after a run: 'After every end but 0 and 5 the stored pc is the one from before the run'
abbrev pub stored_pc : ℕ → ℕ → ℕ → ℕ
stored_pc e first pc = cond (e == 0 || e == 5) pc first
