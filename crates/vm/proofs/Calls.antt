-- A call on a machine that holds a core leaves one that holds a core. Assumes nothing.
use mathlib.Core.Path.{◌≡◌, refl, ap}
use Prim.Native.Nat.{ℕ, ◌≤◌}
use mathlib.Core.Option.{none}
use mathlib.Core.List.{[], ◌∷◌}
use lib.ListN.{length, set}
use Rattle.vm.specs.Core.{Sizes, Core, Memory, used, short, set_regs, set_pc, set_frames, set_memory, set_pages}
use Rattle.program.specs.Image.{Image, failing}
use Rattle.vm.specs.Machine.{Machine, memory_of, view, with_pages, with_names, with_frames, with_regs, Setting, reset, put_pc, put_reg, Host, allocate, option, intern}
use Rattle.vm.specs.Machine.{intern_small, Call, run, host, Acted, runs, hosted, unset, with_setting, laid, run_leaves, host_leaves, granted}
use Rattle.vm.specs.Machine.{host_call, run_call, act, tried, perform}
use Rattle.vm.proofs.Fits.{fits_of}
use Rattle.vm.proofs.Kept.{Kept, Good, allocates-kept, optional-kept, interned-base}
use Rattle.vm.proofs.Holds.{Holds, holds-pages, holds-names, holds-frames, holds_regs}
use Rattle.vm.proofs.Refusals.{tests_on, tests_are}

-- the names of d put beside the pages of c's memory
rejoined : (c d : Memory) → Kept c d → set_pages d.pages c ≡ d
unfolding set_pages
rejoined c d k = rw (← k.slots, ← k.names) refl

unfoldable pub setting_on : Setting → Core → Core
setting_on reset c = set_regs c.regs (set_pc unset (set_frames (unset ∷ []) c))
setting_on (put_pc p) c = set_regs c.regs (set_pc p c)
setting_on (put_reg r v) c = set_regs (set c.regs r v) (set_pc c.pc c)

module _ (n : Sizes) (c : Core) (m : Machine) (h : Holds n c m) where
  -- a run
  pub holds-run : (a : Acted) → Good n c a.core → Holds n a.core (run_leaves m a)
  unfolding run_leaves laid set_regs set_pc set_frames set_memory used
  holds-run a g =
      let f = fits_of n (used a.core) g.1 in
      let pages = holds-pages n c m h a.core.memory.pages g.0.base f.heap in
      let frames = holds-frames n _ _ pages a.trail a.core.frames f.frames in
      rw (rejoined c.memory a.core.memory g.0) at (holds_regs n _ _ frames a.core.regs a.core.pc)

  -- a setting call
  regs_are : m.state.regs ≡ c.regs
  unfolding view
  regs_are = ap (λ (d : Core). d.regs) h.core

  pc-is : m.state.pc ≡ c.pc
  unfolding view
  pc-is = ap (λ (d : Core). d.pc) h.core

  pub memory-is : memory_of m ≡ c.memory
  unfolding view
  memory-is = ap (λ (d : Core). d.memory) h.core

  pub holds-setting : 1 ≤ n.frames → (k : Setting) → Holds n (setting_on k c) (with_setting k m)
  unfolding with_setting setting_on with_frames with_regs
  holds-setting r reset = rw regs_are (holds_regs n _ _ (holds-frames n c m h [] (unset ∷ []) r) c.regs unset)
  holds-setting r (put_pc p) = rw regs_are (holds_regs n c m h c.regs p)
  holds-setting r (put_reg i v) = rw (regs_are, pc-is) (holds_regs n c m h (set c.regs i v) c.pc)

  -- a host call that fits
  holds_kept : (l : Memory) → Kept c.memory l → short n (used (set_memory l c)) ≡ none → Holds n (set_memory l c) (with_pages l.pages m)
  unfolding set_memory used
  holds_kept l k f =
      let r = fits_of n _ f in
      rw (rejoined c.memory l k) at (holds-pages n c m h l.pages k.base r.heap)

  holds_named : (l : Memory) → l.pages.base ≡ c.memory.pages.base → short n (used (set_memory l c)) ≡ none
      → Holds n (set_memory l c) (with_names l.slots l.names (with_pages l.pages m))
  unfolding set_memory set_pages used
  holds_named l b f =
      let r = fits_of n _ f in
      holds-names n _ _ (holds-pages n c m h l.pages b r.heap) l.slots l.names r.slots

  pub holds-host : (k : Host) → short n (used (set_memory (hosted k c.memory).memory c)) ≡ none
      → Holds n (set_memory (hosted k c.memory).memory c) (host_leaves k m (hosted k c.memory).memory)
  unfolding hosted host_leaves
  holds-host (allocate kind align z) f = holds_kept _ (allocates-kept kind z c.memory) f
  holds-host (option o) f = holds_kept _ (optional-kept o c.memory) f
  holds-host (intern s) f = holds_named _ (interned-base s c.memory) f
  holds-host (intern_small z w) f = holds_named _ (interned-base _ c.memory) f

-- ---- a call on a machine that holds a core

pub perform-is : (n : Sizes) (k : Call) (c : Core) (m : Machine) → Holds n c m → perform k m ≡ tried (failing (tests_on k c)) k m
unfolding perform
perform-is n k c m h = rw (tests_are n k c m h) refl

pub run_is : (n : Sizes) (im : Image) (b : ℕ) (c : Core) (m : Machine) → Holds n c m
    → act (run im b) m ≡ record { answer = (runs n im b (length im.code) c).answer; machine = run_leaves m (runs n im b (length im.code) c) }
unfolding act run_call
run_is n im b c m h = rw (h.lent, h.core) refl

pub host-is : (n : Sizes) (k : Host) (c : Core) (m : Machine) → Holds n c m
    → act (host k) m ≡ granted (short n (used (set_memory (hosted k c.memory).memory c))) k m (hosted k c.memory)
unfolding act host_call
host-is n k c m h = rw (h.lent, memory-is n c m h, h.core) refl
