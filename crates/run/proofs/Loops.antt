-- The loop of a run: each way that a turn goes leaves the same run to be finished. Assumes nothing.
use Rattle.std.proofs.Common.{◌≡◌, ℕ, suc, ◌+◌, ◌-◌, ◌^◌, ◌<◌, ◌≤◌, List, [], length, get_or, sym, refl, ap, ◌∙◌, add-zero, arith, lt-ltb}
use native.Mathlib.Nat.{sub-zero}
use Rattle.memory.proofs.Over.{length_over, take-over, over-over}
use Rattle.gc.specs.Lent.{pages_of, numbers_of, InHeap}
use Rattle.gc.proofs.Blocks.{pushed-is, pages_of-over}
use Rattle.op.specs.Decode.{decode_of}
use Rattle.effects.specs.declared.Effect.{Effect}
use Rattle.program.specs.Image.{Image}
use Rattle.effects.specs.Effect.{word_effect}
use Rattle.effects.specs.Stops.{EndsListed}
use Rattle.effects.proofs.Inside.{ends_listed}
use mathlib.Core.Option.{none}
use Rattle.vm.specs.declared.State.{State}
use Rattle.vm.specs.Core.{Core, used, short, ◌⊑◌, set_regs, set_pc}
use Rattle.vm.specs.Run.{Step, next, halted, stop, asked, fetched, step, Ran, after, go}
use Rattle.vm.specs.Machine.{Lent, Machine, sizes, unlent, memory_of, view, with_pages, traced, with_frames, with_regs, laid, blank}
use Rattle.vm.specs.Loaded.{Loaded}
use Rattle.instruction.specs.Turn.{Position, position_of, machine_at, goes, halts, stops, Turned, turned, turn}
use Rattle.run.specs.Loop.{Going, Finished, finishes, finished}
use Rattle.vm.proofs.Fits.{fits_of, view-within, view-fits}
use Rattle.vm.proofs.Upward.{go-next, go-halted, go-stop}
use Rattle.vm.proofs.Kept.{Kept, GoodStep, step_good}
use Rattle.vm.proofs.Grows.{Ends, GrowsStep, step_grows, go_grows}
use Rattle.vm.proofs.Inside.{Inside, StepOk, step_ok, word_ok}
use Rattle.instruction.proofs.Turns.{laid_same}

-- ---- a core laid back, as the next machine

abbrev going_in : ℕ → Machine → Type 0
going_in n m = Going n (position_of m.state) m.lent

module _ (m : Machine) (d : Core) (fit : used d ⊑ sizes m.lent) (kept : Kept (view m).memory d.memory) where
  frames_fit : length d.frames ≤ length m.lent.frames
  unfolding used sizes
  frames_fit = fit.frames

  heap-fits : length d.memory.pages.bytes ≤ length m.lent.heap
  unfolding used sizes
  heap-fits = fit.heap

  sizes-laid : sizes (laid [] d m).lent ≡ sizes m.lent
  unfolding sizes laid with_regs with_frames with_pages traced
  sizes-laid = rw (length_over, length_over) refl

  view-laid : view (laid [] d m) ≡ d
  unfolding view memory_of laid with_regs with_frames with_pages traced
  view-laid =
      rw (
        take-over d.frames m.lent.frames frames_fit,
        pages_of-over d.memory.pages m.lent.heap heap-fits,
        ← kept.slots,
        ← kept.names,
      ) refl

  going_laid : (n : ℕ) → Inside n d → Ends d.memory.pages → InHeap m.state.gc m.lent.heap → going_in n (laid [] d m)
  unfolding laid with_regs with_frames with_pages traced numbers_of view memory_of pages_of
  going_laid n i e s =
      let base : d.memory.pages.base ≡ m.state.gc.base = kept.base in
      let frames = frames_fit in
      let heap = heap-fits in
      let low = s.low in
      record {
        here = i.here;
        returns = rw (take-over d.frames m.lent.frames frames) i.returns;
        fitting = record {
          deep = rw length_over frames;
          sound = record { low = rw (length_over, base) low; in_heap = rw length_over heap; in_pages = e };
        };
      }

  -- what comes after d, over the machine that d is laid on
  finishes-laid : (n : ℕ) (r : Ran) → length d.memory.pages.bytes ≤ length r.core.memory.pages.bytes
      → finishes n m (after d r) ≡ finishes (suc n) (laid [] d m) r
  unfolding finishes after laid with_regs with_frames with_pages traced
  finishes-laid n r more =
      let steps : n + suc r.steps ≡ suc n + r.steps = omega arith in
      rw (steps, over-over r.core.memory.pages.bytes d.memory.pages.bytes m.lent.heap more) refl

  finished-laid : (im : Image) (b n : ℕ) → step (sizes m.lent) im (view m) ≡ next d → Ends d.memory.pages
      → finished im (suc b) n m ≡ finished im b (suc n) (laid [] d m)
  unfolding finished
  finished-laid im b n e ends =
      rw (go-next (sizes m.lent) im b (view m) d e, sizes-laid, view-laid)
      (finishes-laid n (go (sizes m.lent) im b d) (go_grows (sizes m.lent) im b d ends))

-- ---- the ways of a turn

module _ (s : State) (im : Image) (at : Position) (regs : List ℕ) (l : Lent) (ok : Loaded im) (g : Going (length im.code) at l) where
  abbrev m : Machine
  m = machine_at s at regs l

  -- what the word at the pc asks for
  abbrev here : Effect
  here = word_effect im regs (decode_of (get_or im.code at.pc 0))

  own : short (sizes l) (used (view m)) ≡ none
  own = view-fits m (view m) refl

  fit : used (view m) ⊑ sizes l
  fit = view-within m

  inside : Inside (length im.code) (view m)
  unfolding view
  inside = record { here = g.here; returns = g.returns }

  ends : Ends (view m).memory.pages
  unfolding view memory_of pages_of
  ends = rw (pushed-is at.gc l.heap g.fitting.sound) g.fitting.sound.in_pages

  turn_is : turn here m ≡ turned m (step (sizes l) im (view m))
  unfolding turn step asked fetched view
  turn_is = rw (lt-ltb at.pc (length im.code) g.here) refl

  as_it_was : laid [] (view m) m ≡ m
  unfolding view set_regs set_pc
  as_it_was = laid_same s at regs l g.fitting regs at.pc

  -- the loop goes on with this machine
  pub record On (b n : ℕ) (m' : Machine) : Type 0 where
    pub left : finished im (suc b) n m ≡ finished im b (suc n) m'
    pub going : going_in (length im.code) m'

  on_by : (b n : ℕ) (m' : Machine) (x : Step) → step (sizes l) im (view m) ≡ x → GoodStep (sizes l) (view m).memory x
      → StepOk (length im.code) x → GrowsStep (view m).memory.pages x
      → record { how = goes; machine = m' } ≡ turned m x → On b n m'
  unfolding turned
  on_by b n m' (next d) p good o grows e =
      let fits = fits_of (sizes l) (used d) good.1 in
      let is : m' ≡ laid [] d m = ap (λ (z : Turned). z.machine) e in
      rw is
      (record {
        left = finished-laid m d fits good.0 im b n p grows.ends;
        going = going_laid m d fits good.0 (length im.code) o grows.ends g.fitting.sound;
      })
  on_by b n m' halted p good o grows e = cc (ap (λ (z : Turned). z.how) e)
  on_by b n m' (stop k d) p good o grows e = cc (ap (λ (z : Turned). z.how) e)

  pub to_next : (b n : ℕ) (m' : Machine) → record { how = goes; machine = m' } ≡ turn here m → On b n m'
  to_next b n m' e =
      on_by b n m' (step (sizes l) im (view m)) refl (step_good (sizes l) im (view m) own)
      (step_ok (sizes l) im (view m) ok.checks fit inside) (step_grows (sizes l) im (view m) ends) (e ∙ turn_is)

  halt_by : (b n : ℕ) (m' : Machine) (x : Step) → step (sizes l) im (view m) ≡ x → record { how = halts; machine = m' } ≡ turned m x
      → record { ending = 0; steps = n + 1; machine = m' } ≡ finished im (suc b) n m
  unfolding turned finished finishes
  halt_by b n m' (next d) p e = cc (ap (λ (z : Turned). z.how) e)
  halt_by b n m' halted p e = rw (go-halted (sizes l) im b (view m) p, as_it_was, ap (λ (z : Turned). z.machine) e) refl
  halt_by b n m' (stop k d) p e = cc (ap (λ (z : Turned). z.how) e)

  pub to_halt : (b n : ℕ) (m' : Machine) → record { how = halts; machine = m' } ≡ turn here m
      → record { ending = 0; steps = n + 1; machine = m' } ≡ finished im (suc b) n m
  to_halt b n m' e = halt_by b n m' (step (sizes l) im (view m)) refl (e ∙ turn_is)

  stop_by : (b n k : ℕ) (m' : Machine) (x : Step) → step (sizes l) im (view m) ≡ x → record { how = stops k; machine = m' } ≡ turned m x
      → record { ending = k; steps = n; machine = m' } ≡ finished im (suc b) n m
  unfolding turned finished finishes
  stop_by b n k m' (next d) p e = cc (ap (λ (z : Turned). z.how) e)
  stop_by b n k m' halted p e = cc (ap (λ (z : Turned). z.how) e)
  stop_by b n k m' (stop j d) p e =
      let number : k ≡ j = cc (ap (λ (z : Turned). z.how) e) in
      rw (go-stop (sizes l) im b (view m) d j p, ap (λ (z : Turned). z.machine) e, number, add-zero n) refl

  pub to_stop : (b n k : ℕ) (m' : Machine) → record { how = stops k; machine = m' } ≡ turn here m
      → record { ending = k; steps = n; machine = m' } ≡ finished im (suc b) n m
  to_stop b n k m' e = stop_by b n k m' (step (sizes l) im (view m)) refl (e ∙ turn_is)

  pub to_budget : (n : ℕ) → record { ending = 5; steps = n; machine = m } ≡ finished im 0 n m
  unfolding finished finishes go
  to_budget n = rw (as_it_was, add-zero n) refl

  pub here_listed : EndsListed here
  here_listed = ends_listed (length im.code) here (word_ok im regs (get_or im.code at.pc 0) ok.checks (ok.checks.words at.pc g.here))

-- ---- the loop's invariant

-- where the loop has come to, with `done` steps completed: what is left of the run from here is what the whole run was. `lent` puts what the loop
-- is lent into any buffers
pub record Running (im : Image) (budget : ℕ) (regs₀ : List ℕ) (lent₀ : Lent → Lent) (at₀ : Position) (regs : List ℕ) (lent : Lent → Lent)
    (at : Position) (done : ℕ) : Type 0 where
  pub rest : (s : State) (l : Lent)
      → finished im (budget - done) done (machine_at s at regs (lent l)) ≡ finished im budget 0 (machine_at s at₀ regs₀ (lent₀ l))
  pub here : at.pc < length im.code
  pub going : (l : Lent) → Going (length im.code) at (lent l)

pub running_first : (im : Image) (budget : ℕ) (regs : List ℕ) (lent : Lent → Lent) (at : Position)
    → ((l : Lent) → Going (length im.code) at (lent l)) → Running im budget regs lent at regs lent at 0
running_first im budget regs lent at g =
    record {
      rest = λ s l. ap (λ (n : ℕ). finished im n 0 (machine_at s at regs (lent l))) (sub-zero budget);
      here = (g unlent).here;
      going = g;
    }

module _ (im : Image) (ok : Loaded im) (budget : ℕ) (regs₀ : List ℕ) (lent₀ : Lent → Lent) (at₀ : Position) (regs : List ℕ) (lent : Lent → Lent)
    (at : Position) (done : ℕ)
    (r : Running im budget regs₀ lent₀ at₀ regs lent at done)
  where
    abbrev now_at : State → Lent → Machine
    now_at s l = machine_at s at regs (lent l)

    abbrev whole : State → Lent → Finished
    whole s l = finished im budget 0 (machine_at s at₀ regs₀ (lent₀ l))

    abbrev asks : Effect
    asks = word_effect im regs (decode_of (get_or im.code at.pc 0))

    module _ (more : done < budget) where
      rest_more : (s : State) (l : Lent) → finished im (suc (budget - suc done)) done (now_at s l) ≡ whole s l
      rest_more s l =
          let one : suc (budget - suc done) ≡ budget - done = omega arith in
          rw one (r.rest s l)

      pub running_next : (to : Position) (regs' : List ℕ) (lent' : Lent → Lent)
          → ((s : State) (l : Lent) → record { how = goes; machine = machine_at s to regs' (lent' l) } ≡ turn asks (now_at s l))
          → Running im budget regs₀ lent₀ at₀ regs' lent' to (done + 1)
      running_next to regs' lent' e =
          let next : done + 1 ≡ suc done = omega arith in
          record {
            rest = λ s l. rw next (sym (on s l).left ∙ rest_more s l);
            here = (on (blank 0 unlent).state unlent).going.here;
            going = λ l. (on (blank 0 l).state l).going;
          }
        where
          on : (s : State) (l : Lent) → On s im at regs (lent l) ok (r.going l) (budget - suc done) done (machine_at s to regs' (lent' l))
          on s l = to_next s im at regs (lent l) ok (r.going l) (budget - suc done) done _ (e s l)

      module _ (s : State) (l : Lent) where
        pub halted-here : (m' : Machine) → record { how = halts; machine = m' } ≡ turn asks (now_at s l)
            → record { ending = 0; steps = done + 1; machine = m' } ≡ whole s l
        halted-here m' e = to_halt s im at regs (lent l) ok (r.going l) (budget - suc done) done m' e ∙ rest_more s l

        pub stopped_here : (k : ℕ) (m' : Machine) → record { how = stops k; machine = m' } ≡ turn asks (now_at s l)
            → record { ending = k; steps = done; machine = m' } ≡ whole s l
        stopped_here k m' e = to_stop s im at regs (lent l) ok (r.going l) (budget - suc done) done k m' e ∙ rest_more s l

    pub spent-here : budget ≤ done → done ≤ budget → (s : State) (l : Lent) → record { ending = 5; steps = budget; machine = now_at s l } ≡ whole s l
    spent-here h w s l =
        let none_left : budget - done ≡ 0 = omega arith in
        let all : done ≡ budget = omega arith in
        to_budget s im at regs (lent l) ok (r.going l) budget ∙ (rw (none_left, all) at (r.rest s l))

    pub asks_listed : EndsListed asks
    asks_listed = here_listed (blank 0 unlent).state im at regs (lent unlent) ok (r.going unlent)

    pub next_fits : at.pc + 1 < 2 ^ 64
    next_fits = let h = r.here in let s = ok.size in omega arith
