-- A machine that holds a core in lent buffers of given sizes, and keeps doing so as parts of it are laid back. Assumes nothing.
use mathlib.Core.Path.{◌≡◌, refl, ap, ◌∙◌}
use Prim.Native.Nat.{ℕ, ◌≤◌}
use mathlib.Core.Bool.{Bool, true, false}
use mathlib.Core.Option.{none}
use mathlib.Core.List.{List, [], ◌∷◌}
use lib.ListN.{length}
use Rattle.memory.specs.Lists.{over}
use Rattle.memory.proofs.Over.{length_over, take-over}
use Rattle.str_table.specs.Grow.{spare_after}
use Rattle.gc.specs.Pages.{Pages}
use Rattle.gc.proofs.Blocks.{pages_of-over}
use Rattle.vm.specs.Core.{Core, Sizes, used, short, ◌⊑◌, set_regs, set_pc, set_frames, set_memory, set_pages}
use Rattle.vm.specs.Machine.{Machine, sizes, memory_of, view, state_of, with_pages, with_names, traced, frames_of, with_frames, with_regs, buffers_ok}
use Rattle.vm.proofs.Fits.{fits_of, none_of, fit_frames, fit_heap, fit_slots}

-- the machine m, lent n, holds the core c: what is lent is legal, the state is that of c, and c fits
pub record Holds (n : Sizes) (c : Core) (m : Machine) : Type 0 where
  pub lent : sizes m.lent ≡ n
  pub legal : buffers_ok c.memory.pages.base m.lent ≡ true
  pub core : view m ≡ c
  pub state : m.state ≡ state_of c
  pub fits : short n (used c) ≡ none

pub length-traced : (part : Core → List ℕ) (t : List Core) (old : List ℕ) → length (traced part t old) ≡ length old
unfolding traced
length-traced part [] old = refl
length-traced part (d ∷ t) old = length-traced part t (over (part d) old) ∙ length_over (part d) old

length_spared : (b : Bool) (old spare : List ℕ) → length (spare_after b old spare) ≡ length spare
unfolding spare_after
length_spared true old spare = length_over old spare
length_spared false old spare = refl

module _ (n : Sizes) (c : Core) (m : Machine) (h : Holds n c m) where
  -- what the core uses, within what is lent
  within : used c ⊑ n
  within = fits_of n (used c) h.fits

  heap-lent : length m.lent.heap ≡ n.heap
  unfolding sizes
  heap-lent = ap (λ (z : Sizes). z.heap) h.lent

  frames-lent : length m.lent.frames ≡ n.frames
  unfolding sizes
  frames-lent = ap (λ (z : Sizes). z.frames) h.lent

  slots_lent : length m.lent.slots ≡ n.slots
  unfolding sizes
  slots_lent = ap (λ (z : Sizes). z.slots) h.lent

  pub holds-pages : (p : Pages) → p.base ≡ c.memory.pages.base → length p.bytes ≤ n.heap
      → Holds n (set_memory (set_pages p c.memory) c) (with_pages p m)
  unfolding sizes view memory_of state_of with_pages set_memory set_pages used
  holds-pages p e r =
      record {
        lent = rw length_over h.lent;
        legal = rw (length_over, e) h.legal;
        core = rw (pages_of-over p m.lent.heap (rw heap-lent r), ← h.core) refl;
        state = rw h.state refl;
        fits = none_of n _ (fit_heap n (used c) within _ r);
      }

  pub holds-names : (slots : List ℕ) (names : ℕ) → length slots ≤ n.slots
      → Holds n (set_memory (record { pages = c.memory.pages; slots = slots; names = names }) c) (with_names slots names m)
  unfolding sizes view memory_of state_of with_names set_memory used
  holds-names slots names r =
      record {
        lent = rw length_over h.lent;
        legal = rw (length_over, length_spared) h.legal;
        core = rw (take-over slots m.lent.slots (rw slots_lent r), ← h.core) refl;
        state = rw h.state refl;
        fits = none_of n _ (fit_slots n (used c) within _ r);
      }

  pub holds-frames : (trail : List Core) (frames : List ℕ) → length frames ≤ n.frames → Holds n (set_frames frames c) (with_frames trail frames m)
  unfolding sizes view memory_of state_of with_frames set_frames used
  holds-frames trail frames r =
      let old = traced frames_of trail m.lent.frames in
      record {
        lent = rw (length_over, length-traced) h.lent;
        legal = rw (length_over, length-traced) h.legal;
        core = rw (take-over frames old (rw (length-traced, frames-lent) r), ← h.core) refl;
        state = rw h.state refl;
        fits = none_of n _ (fit_frames n (used c) within _ r);
      }

  pub holds_regs : (regs : List ℕ) (pc : ℕ) → Holds n (set_regs regs (set_pc pc c)) (with_regs regs pc m)
  unfolding with_regs view memory_of state_of used set_regs set_pc
  holds_regs regs pc =
      record {
        lent = h.lent;
        legal = h.legal;
        core = rw (← h.core) refl;
        state = rw h.state refl;
        fits = h.fits;
      }
