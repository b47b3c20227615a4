-- What 9 asks of a machine lasts: a start leaves it, and every call keeps it, so that any list of calls does. Assumes nothing.
use mathlib.Core.Path.{◌≡◌, refl, sym, ap, subst}
use Prim.Native.Nat.{ℕ, zero, suc, max, ◌≤◌, ◌<◌}
use mathlib.Core.Bool.{Bool, true, false, ◌||◌}
use mathlib.Core.Option.{Option, none, some}
use mathlib.Core.List.{List, [], ◌∷◌}
use native.Mathlib.Omega.{arith}
use native.Mathlib.Nat.{le-max_left, le-max_right}
use lib.ListN.{length, set}
use lib.Dec.{ltb, eqb, lit<, lit≤}
use borrow.Author.Tests.{ltb-true}
use Rattle.memory.proofs.Over.{length-write}
use Rattle.memory.proofs.Tests.{both}
use Rattle.str_table.proofs.Counting.{most-slots}
use Rattle.str_table.proofs.Inserting.{no_slots_sound}
use Rattle.gc.specs.Pages.{gap_of, block, fitted, allocated, holds}
use Rattle.program.specs.Image.{Image, failing}
use Rattle.vm.specs.Core.{Core, Sizes, used, short, set_regs, set_pc, set_frames, set_memory, set_pages, set_bytes}
use Rattle.vm.specs.Run.{go, root, entered, stored}
use Rattle.vm.specs.Names.{boxed, filled}
use Rattle.vm.specs.Machine.{Lent, Machine, sizes, view, Setting, reset, put_pc, put_reg, Host, Call, run, setting, host}
use Rattle.vm.specs.Machine.{ran, idle, runs, hosted, unset, granted, act, frames_ok, heap_ok, slots_ok, returns_ok, tests_by, tests, tried, perform, answers_to}
use Rattle.vm.specs.Machine.{first_page, first_memory, begun, start}
use Rattle.vm.proofs.Fits.{fits_of}
use Rattle.vm.proofs.Holds.{Holds}
use Rattle.vm.proofs.Runs.{entered-used, runs-go, runs_past, runs_good}
use Rattle.vm.proofs.Refusals.{tests_on, tests_are, frames-same}
use Rattle.vm.proofs.Calls.{setting_on, holds-run, holds-setting, holds-host, run_is, host-is}
use Rattle.vm.proofs.Starting.{empty, first, start-holds}
use Rattle.vm.proofs.Ends.{code-size, all_passed, from_inside, checks}
use Rattle.vm.proofs.Belongs.{PagesSound, Belongs, go-belongs, hosted-belongs}
use Rattle.standing.specs.Standing.{words_after, words_for}
use Rattle.standing.proofs.Frames.{returns-more, one_frame, go-behind}

-- the frames in use can belong to code of k words, and to longer
abbrev pub Return : ℕ → List ℕ → Type 0
Return k frames = (j : ℕ) → k ≤ j → returns_ok j frames ≡ true

-- the machine m, lent n, on which runs need k words of code: what 9 asks of it
pub record Lasts (n : Sizes) (k : ℕ) (m : Machine) : Type 0 where
  pub core : Core
  pub holds : Holds n core m
  pub memory : Belongs core.memory
  pub frames : Return k core.frames

-- ---- what a run leaves

-- the stored pc is nothing that 9 looks at
record ButPc (c d : Core) : Type 0 where
  frames : d.frames ≡ c.frames
  memory : d.memory ≡ c.memory

stored_but_pc : (e p : ℕ) (c : Core) → ButPc c (stored e p c)
unfolding stored set_pc
stored_but_pc e p c =
    elim (eqb e 0 || eqb e 5) as (λ t. ButPc c (elim t [ true ↦ c | false ↦ set_pc p c ])) [
      | true ↦ record { frames = refl; memory = refl }
      | false ↦ record { frames = refl; memory = refl }
    ]

entered-frames : (last r : ℕ) (fs : List ℕ) → returns_ok (suc last) fs ≡ true → returns_ok (suc last) (set fs 0 r) ≡ true
unfolding returns_ok
entered-frames last r [] h = h
entered-frames last r (f ∷ fs) h = h

module _ (n : Sizes) (im : Image) (b : ℕ) (c : Core) where
  memory_case : (last : ℕ) (t : Bool) → ltb c.pc (suc last) ≡ t → Belongs c.memory → Belongs (runs n im b (suc last) c).core.memory
  unfolding ran idle entered set_frames
  memory_case last false e h = rw (runs_past n im b last c e, (stored_but_pc 0 c.pc (entered (suc last) c)).memory) h
  memory_case last true e h =
      let r = go n im b (entered (suc last) c) in
      rw (runs-go n im b last c e, (stored_but_pc r.ending c.pc r.core).memory) (go-belongs n im b (entered (suc last) c) h)

  run-memory : (k : ℕ) → Belongs c.memory → Belongs (runs n im b k c).core.memory
  unfolding runs
  run-memory zero h = h
  run-memory (suc last) h = memory_case last _ refl h

  module _ (m : Machine) (h : Holds n c m) (passed : failing (tests (run im b) m.state m.lent) ≡ none) where
    -- 9 has passed
    returns-here : returns_ok (length im.code) c.frames ≡ true
    returns-here = rw (frames-same n c m h (length im.code)) at (all_passed im b m passed).frames

    frames_case : (last : ℕ) (t : Bool) → length im.code ≡ suc last → ltb c.pc (suc last) ≡ t → returns_ok (suc last) c.frames ≡ true
        → returns_ok (suc last) (runs n im b (suc last) c).core.frames ≡ true
    unfolding ran idle entered set_frames
    frames_case last false e t r =
        rw (runs_past n im b last c t, (stored_but_pc 0 c.pc (entered (suc last) c)).frames)
        (entered-frames last (root (suc last)) c.frames r)
    frames_case last true e t r =
        let d = entered (suc last) c in
        let at : m.state.pc < suc last = unfold view in (subst (λ (x : Core). x.pc < suc last) (sym h.core) (ltb-true _ _ t)) in
        let size : suc last ≤ 65536 = rw (← e) (code-size im (all_passed im b m passed).image) in
        let in_it = rw (e, h.core) at (from_inside im b m passed last e at) in
        let fit : short n (used d) ≡ none = rw entered-used h.fits in
        let end = go n im b d in
        rw (runs-go n im b last c t, (stored_but_pc end.ending c.pc end.core).frames)
        (go-behind last (omega arith) n im e (checks im b m passed (omega arith)) b d
        (fit, in_it, entered-frames last (root (suc last)) c.frames r))

    -- of code of j words, where k were needed
    run-frames : (k j : ℕ) → length im.code ≡ j → returns_ok j c.frames ≡ true → Return k c.frames
        → Return (max k j) (runs n im b j c).core.frames
    unfolding runs
    run-frames k zero e r f i le = f i (omega (arith, le-max_left k zero))
    run-frames k (suc last) e r f i le = returns-more last i _ (omega (arith, le-max_right k (suc last))) (frames_case last _ e refl r)

-- ---- what a call leaves

setting-memory : (s : Setting) (c : Core) → (setting_on s c).memory ≡ c.memory
unfolding setting_on set_regs set_pc set_frames
setting-memory reset c = refl
setting-memory (put_pc p) c = refl
setting-memory (put_reg r v) c = refl

setting-frames : (k : ℕ) (s : Setting) (c : Core) → Return k c.frames → Return (words_after k (setting s)) (setting_on s c).frames
unfolding setting_on set_regs set_pc set_frames words_after
setting-frames k reset c f = λ j le. one_frame j unset
setting-frames k (put_pc p) c f = f
setting-frames k (put_reg r v) c f = f

module _ (n : Sizes) (room : 1 ≤ n.frames) (k : ℕ) (m : Machine) (a : Lasts n k m) where
  abbrev c : Core
  c = a.core

  -- at most 4,096 slots are lent
  slots_lent : n.slots ≤ 4096
  unfolding slots_ok sizes
  slots_lent =
      let l = m.lent in
      let rest = (both (frames_ok (length l.frames)) _ a.holds.legal).1 in
      let slots = (both (heap_ok c.memory.pages.base (length l.heap)) _ rest).1 in
      let long : length l.slots ≡ n.slots = ap (λ (z : Sizes). z.slots) a.holds.lent in
      rw (← long) (most-slots (length l.slots) (both _ _ slots).0)

  host_lasts : (s : Host) (o : Option ℕ) → short n (used (set_memory (hosted s c.memory).memory c)) ≡ o
      → Lasts n k (granted o s m (hosted s c.memory)).machine
  unfolding granted set_memory used
  host_lasts s none e =
      let few = slots_lent in
      let fit = (fits_of n _ e).slots in
      record {
        core = set_memory (hosted s c.memory).memory c;
        holds = holds-host n c m a.holds s e;
        memory = hosted-belongs c.memory a.memory s (omega arith);
        frames = a.frames;
      }
  host_lasts s (some e) q = a

  -- a refused call leaves all as it was, and a reset is not refused
  refused_lasts : (q : Call) (e : ℕ) → failing (tests q m.state m.lent) ≡ some e → Lasts n (words_after k q) m
  unfolding words_after tests_on tests_by failing
  refused_lasts (run im b) e f = record {
    core = c;
    holds = a.holds;
    memory = a.memory;
    frames = λ j le. a.frames j (omega (arith, le-max_left k (length im.code)));
  }
  refused_lasts (setting reset) e f =
      let g = rw (tests_are n (setting reset) c m a.holds) at f in
      cc
  refused_lasts (setting (put_pc p)) e f = a
  refused_lasts (setting (put_reg r v)) e f = a
  refused_lasts (host s) e f = a

  tried_lasts : (q : Call) (o : Option ℕ) → failing (tests q m.state m.lent) ≡ o → Lasts n (words_after k q) (tried o q m).machine
  unfolding tried words_after
  tried_lasts q (some e) f = refused_lasts q e f
  tried_lasts (run im b) none f =
      let j = length im.code in
      let r = runs n im b j c in
      rw (run_is n im b c m a.holds) (record {
        core = r.core;
        holds = holds-run n c m a.holds r (runs_good n im b j c a.holds.fits);
        memory = run-memory n im b c j a.memory;
        frames = run-frames n im b c m a.holds f k j refl (returns-here n im b c m a.holds f) a.frames;
      })
  tried_lasts (setting s) none f = unfold act in (record {
    core = setting_on s c;
    holds = holds-setting n c m a.holds room s;
    memory = rw setting-memory a.memory;
    frames = setting-frames k s c a.frames;
  })
  tried_lasts (host s) none f = rw (host-is n s c m a.holds) (host_lasts s _ refl)

  pub call_lasts : (q : Call) → Lasts n (words_after k q) (perform q m).machine
  unfolding perform
  call_lasts q = tried_lasts q _ refl

-- ---- from the start through any list

pub all_last : (n : Sizes) → 1 ≤ n.frames → (calls : List Call) (k : ℕ) (m : Machine) → Lasts n k m
    → Lasts n (words_for k calls) (answers_to calls m).machine
unfolding words_for answers_to
all_last n room [] k m a = a
all_last n room (q ∷ qs) k m a = all_last n room qs _ _ (call_lasts n room k m a q)

first_sound : (base : ℕ) → PagesSound (first_memory base).pages
unfolding first_memory first_page boxed filled set_pages set_bytes allocated fitted holds block gap_of
first_sound base = record {
  whole = rw (length-write, length-write) refl;
  at_page = refl;
  inside = rw (length-write, length-write) (lit< tt);
  ends = rw (length-write, length-write) (lit≤ tt);
}

pub first_lasts : (im : Image) (base : ℕ) (l : Lent) (m : Machine) → start im base l ≡ begun m → Lasts (sizes l) 0 m
unfolding first empty set_frames set_memory set_pages
first_lasts im base l m e = record {
  core = first base;
  holds = (start-holds im base l m e).holds;
  memory = record { pages = first_sound base; names = no_slots_sound _ _ };
  frames = λ j le. one_frame j unset;
}
