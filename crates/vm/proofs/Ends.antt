-- Demand 1: any start or run is refused by a number of the table, which changes nothing, or the run ends with a listed number within its budget,
-- 5 only when the budget is completed, and reads nothing outside the code, the globals and the tables (`unlisted`, which such a read would end
-- with, is no listed number). Assumes nothing.
use mathlib.Core.Path.{◌≡◌, refl, sym, ap, subst, ◌∙◌}
use Prim.Native.Nat.{ℕ, zero, suc, ◌+◌, ◌-◌, ◌%◌, ◌^◌, ◌≤◌, ◌<◌}
use mathlib.Core.Bool.{Bool, true, false, ◌&&◌, ◌||◌, true≢false}
use mathlib.Core.Option.{Option, none, some}
use mathlib.Core.List.{List, [], ◌∷◌, ◌++◌, append-nil}
use native.Mathlib.Omega.{arith}
use native.Mathlib.Nat.{not-suc-le-zero, le_of_suc-le-suc, mod-le}
use lib.ListN.{length, get_or, take, drop, set}
use lib.Dec.{leb, ltb, eqb, lit<}
use borrow.Author.Tests.{leb-true, le-leb, ltb-true, eqb-true, ne_eqb}
use Rattle.memory.proofs.Tests.{both}
use Rattle.anomaly.specs.Table.{is_anomaly, is_refusal}
use Rattle.std.specs.Prelude.{Ok, Err}
use Rattle.op.specs.declared.Counts.{Counts}
use Rattle.op.specs.Reach.{Checked, check_of}
use Rattle.vm.specs.Core.{Core, Sizes, used, short, set_frames}
use Rattle.program.specs.Image.{Image, Test, test, image_ok, ends_in_halt, below, word_test, word_tests, counts, image_tests, failing}
use Rattle.vm.specs.Run.{Step, next, halted, stop, step, after, go, root, entered}
use Rattle.vm.specs.Names.{Given}
use Rattle.vm.specs.Machine.{Lent, Machine, sizes, view, Call, run, setting, host, Host, Answer, ended, value, done, refused}
use Rattle.vm.specs.Machine.{ran, idle, runs, run_call, act, granted, host_call, frames_ok, heap_ok, returns_ok}
use Rattle.vm.specs.Machine.{frames_belong, pages_belong, found, tests_by, tests, tried, perform, starts, buffers_ok, start}
use Rattle.vm.proofs.Fits.{fits_of, view-fits}
use Rattle.program.proofs.Tests.{failing-cons}
use Rattle.vm.proofs.Refusals.{failing_numbered, image_alone, call_numbered}
use Rattle.vm.proofs.Upward.{go-next, go-halted, go-stop}
use Rattle.vm.proofs.Kept.{GoodStep, step_good}
use Rattle.vm.proofs.Runs.{entered-used, runs-go, runs_past}
use Rattle.program.proofs.Images.{passed_tables}
use Rattle.vm.specs.Loaded.{Checks, Loaded, Returns}
use Rattle.vm.specs.Listed.{Listed, RunEnds, RunAnswer, StartAnswer}
use Rattle.vm.proofs.Inside.{Inside, StepOk, step_ok}

listed_next : (b e steps : ℕ) → Listed b e steps → Listed (suc b) e (suc steps)
listed_next b e steps h = let w = h.within in record { number = h.number; within = omega arith; spends = λ q. ap suc (h.spends q) }

or_right : (a b : Bool) → b ≡ true → (a || b) ≡ true
or_right true b h = refl
or_right false b h = h

stop-listed : (b e : ℕ) → is_anomaly e ≡ true → Listed b e 0
stop-listed b e h =
    record {
      number = or_right (eqb e 0 || eqb e 5) (is_anomaly e) h;
      within = omega arith;
      spends = λ q. absurd (true≢false (sym (subst (λ (z : ℕ). is_anomaly z ≡ true) q h)));
    }

nothing_done : (b : ℕ) → Listed b 0 0
nothing_done b = record { number = refl; within = omega arith; spends = λ q. absurd (omega arith) }

-- ---- a run on a checked image, from inside the code

module _ (L : Sizes) (im : Image) (k : Checks im) where
  abbrev GoListed : ℕ → Core → Type 0
  GoListed b c = short L (used c) ≡ none → Inside (length im.code) c → Listed b (go L im b c).ending (go L im b c).steps

  listed_suc : (b : ℕ) (c : Core) (x : Step) → step L im c ≡ x → GoodStep L c.memory x → StepOk (length im.code) x → ((d : Core) → GoListed b d)
      → Listed (suc b) (go L im (suc b) c).ending (go L im (suc b) c).steps
  unfolding after go
  listed_suc b c (next d) p g o ih = rw (go-next L im b c d p) (listed_next b _ _ (ih d g.1 o))
  listed_suc b c halted p g o ih = rw (go-halted L im b c p)
      (record { number = refl; within = omega arith; spends = λ q. absurd (omega arith) })
  listed_suc b c (stop e d) p g o ih = rw (go-stop L im b c d e p) (stop-listed (suc b) e o)

  pub go-listed : (b : ℕ) (c : Core) → GoListed b c
  unfolding go
  go-listed zero c f i = record { number = refl; within = omega arith; spends = λ q. refl }
  go-listed (suc b) c f i =
      listed_suc b c (step L im c) refl (step_good L im c f) (step_ok L im c k (fits_of L (used c) f) i) (go-listed b)

-- ---- what the tests of a run leave

word_fine : (x : Checked) → (word_test x).passes ≡ true → x ≡ Ok tt
unfolding word_test
word_fine (Ok u) h = refl
word_fine (Err why) h = absurd (true≢false (sym h))

words_fine : (n : Counts) (ws : List ℕ) (rest : List Test) → failing (word_tests n ws ++ rest) ≡ none
    → ((i : ℕ) → i < length ws → check_of n (get_or ws i 0) ≡ Ok tt) × (failing rest ≡ none)
unfolding word_tests
words_fine n [] rest h = (λ i l. absurd (not-suc-le-zero l), h)
words_fine n (w ∷ ws) rest h =
    let here = failing-cons (word_test (check_of n w)) (word_tests n ws ++ rest) h in
    let more = words_fine n ws rest here.1 in
    (λ i. at i (word_fine (check_of n w) here.0) more.0, more.1)
  where
    at : (i : ℕ) → check_of n w ≡ Ok tt → ((j : ℕ) → j < length ws → check_of n (get_or ws j 0) ≡ Ok tt) → i < length (w ∷ ws)
        → check_of n (get_or (w ∷ ws) i 0) ≡ Ok tt
    at zero f m l = f
    at (suc j) f m l = m j (le_of_suc-le-suc l)

ends_at : (ws : List ℕ) → 0 < length ws → ends_in_halt ws ≡ true → get_or ws (length ws - 1) 0 % 256 ≡ 59
unfolding ends_in_halt
ends_at [] l h = absurd (not-suc-le-zero l)
ends_at (w ∷ ws) l h =
    let i : length (w ∷ ws) - 1 ≡ length ws = omega arith in
    ap (λ (j : ℕ). get_or (w ∷ ws) j 0 % 256) i ∙ eqb-true _ _ h

-- frames below the last word's place return into the code
returns_of : (last : ℕ) (fs : List ℕ) → below last fs ≡ true → Returns (suc last) fs
unfolding below
returns_of last [] h = tt
returns_of last (f ∷ fs) h =
    let k = both (ltb f last) (below last fs) h in
    let l = ltb-true f last k.0 in
    let m = mod-le (f + 1) (2 ^ 64) in
    (omega arith, returns_of last fs k.1)

root-returns : (last : ℕ) → last < 65536 → (root (suc last) + 1) % 2 ^ 64 < suc last
unfolding root
root-returns zero h = lit< tt
root-returns (suc n) h = omega arith

entered-returns : (last : ℕ) (fs : List ℕ) → last < 65536 → below last (drop 1 fs) ≡ true → Returns (suc last) (set fs 0 (root (suc last)))
entered-returns last [] b h = tt
entered-returns last (f ∷ fs) b h = (root-returns last b, returns_of last fs h)

pub code-size : (im : Image) → image_ok im ≡ true → length im.code ≤ 65536
unfolding image_ok
code-size im h = leb-true _ _ (both (leb (length im.code) 65536) _ h).0

-- what a loaded image is
pub loaded_by : (im : Image) → failing (image_tests true im) ≡ none → 0 < length im.code → Loaded im
unfolding image_tests
loaded_by im p l =
    let size = failing-cons (test (image_ok im) 10) _ p in
    let halts = failing-cons (test _ 11) _ size.1 in
    let targets = failing-cons (test _ 16) _ halts.1 in
    let words = words_fine (counts im) im.code [] (rw append-nil targets.1) in
    let tables = passed_tables im p in
    record {
      size = code-size im size.0;
      switches = tables.0;
      lookups = tables.1;
      defaults = tables.2;
      checks = record { targets = targets.0; words = words.0; ends = ends_at im.code l halts.0 };
    }

-- ---- the whole call

module _ (im : Image) (b : ℕ) (m : Machine) (passed : failing (tests (run im b) m.state m.lent) ≡ none) where
  abbrev rest : List Test
  rest = test (frames_belong (length im.code) m.state m.lent && pages_belong m.state m.lent) 9 ∷ []

  abbrev pub lent_ok : Bool
  lent_ok = frames_ok (length m.lent.frames) && heap_ok m.state.gc.base (length m.lent.heap)

  -- 10, 11, 16, the words, and 9, each passed
  pub record Passed : Type 0 where
    pub lent : lent_ok ≡ true
    pub image : image_ok im ≡ true
    pub halts : ends_in_halt im.code ≡ true
    pub targets : below (length im.code) im.switches.entries ≡ true
    pub words : (i : ℕ) → i < length im.code → check_of (counts im) (get_or im.code i 0) ≡ Ok tt
    pub frames : frames_belong (length im.code) m.state m.lent ≡ true
    pub pages : pages_belong m.state m.lent ≡ true

  pub all_passed : Passed
  unfolding tests tests_by image_tests
  all_passed =
      let size = failing-cons (test (lent_ok && image_ok im) 10) _ passed in
      let halts = failing-cons (test _ 11) _ size.1 in
      let targets = failing-cons (test _ 16) _ halts.1 in
      let words = words_fine (counts im) im.code rest targets.1 in
      let state = failing-cons (test _ 9) [] words.1 in
      let sizes = both lent_ok (image_ok im) size.0 in
      let belongs = both (frames_belong (length im.code) m.state m.lent) (pages_belong m.state m.lent) state.0 in
      record { lent = sizes.0; image = sizes.1; halts = halts.0; targets = targets.0; words = words.0; frames = belongs.0; pages = belongs.1 }

  -- from a pc inside the code of suc last words
  pub from_inside : (last : ℕ) → length im.code ≡ suc last → m.state.pc < suc last → Inside (length im.code) (entered (suc last) (view m))
  unfolding entered set_frames view frames_belong returns_ok
  from_inside last e l =
      let p = all_passed in
      let s : suc last ≤ 65536 = rw (← e) (code-size im p.image) in
      let frames : frames_belong (suc last) m.state m.lent
      ≡ true = subst (λ (n : ℕ). frames_belong n m.state m.lent ≡ true) e p.frames in
      let back = (both (leb m.state.depth (length m.lent.frames)) _ frames).1 in
      rw e (record { here = l; returns = entered-returns last (take m.state.depth m.lent.frames) s back })

  pub checks : 0 < length im.code → Checks im
  checks l = let p = all_passed in record { targets = p.targets; words = p.words; ends = ends_at im.code l p.halts }

  ends_case : (last : ℕ) (t : Bool) → length im.code ≡ suc last → ltb m.state.pc (suc last) ≡ t
      → RunAnswer b (runs (sizes m.lent) im b (suc last) (view m)).answer
  unfolding ran idle entered set_frames view
  ends_case last true e t =
      let c = entered (suc last) (view m) in
      let fit = view-fits m c (entered-used (suc last) (view m)) in
      rw (runs-go (sizes m.lent) im b last (view m) t)
      (go-listed (sizes m.lent) im (checks (omega arith)) b c fit (from_inside last e (ltb-true _ _ t)))
  ends_case last false e t = rw (runs_past (sizes m.lent) im b last (view m) t) (nothing_done b)

  run_ends : (n : ℕ) → length im.code ≡ n → RunAnswer b (runs (sizes m.lent) im b n (view m)).answer
  unfolding runs
  run_ends zero e = nothing_done b
  run_ends (suc last) e = ends_case last (ltb m.state.pc (suc last)) e refl

-- ---- the first demand, of the definition

pub refusal_numbered : (k : ℕ) → (9 ≤ k) × (k ≤ 17) → is_refusal k ≡ true
refusal_numbered k h = rw (ne_eqb k 2 (λ e. omega arith), le-leb 9 k h.0, le-leb k 19 (omega arith)) refl

-- a run that was tried ends, and is not refused
ended_case : (n : Sizes) (im : Image) (b k : ℕ) (c : Core) (e : ℕ) (t : Bool) → ltb c.pc (suc k) ≡ t
    → (runs n im b (suc k) c).answer ≡ refused e → ⊥
unfolding ran
ended_case n im b k c e true q h = let g = rw (runs-go n im b k c q) at h in cc
ended_case n im b k c e false q h = let g = rw (runs_past n im b k c q) at h in cc

runs-ends : (n : Sizes) (im : Image) (b k : ℕ) (c : Core) (e : ℕ) → (runs n im b k c).answer ≡ refused e → ⊥
unfolding runs
runs-ends n im b zero c e h = cc
runs-ends n im b (suc k) c e h = ended_case n im b k c e (ltb c.pc (suc k)) refl h

granted-refused : (o : Option ℕ) (k : Host) (m : Machine) (g : Given) (e : ℕ) → (granted o k m g).answer ≡ refused e → (granted o k m g).machine ≡ m
unfolding granted
granted-refused none k m g e h = cc
granted-refused (some n) k m g e h = refl

-- any run on any machine: refused by a number of the table, or ended with a listed number within the budget
pub run-answers : (im : Image) (b : ℕ) (m : Machine) → RunAnswer b (perform (run im b) m).answer
unfolding perform tried act run_call tests
run-answers im b m = by (failing (tests (run im b) m.state m.lent)) refl
  where
    by : (o : Option ℕ) → failing (tests (run im b) m.state m.lent) ≡ o → RunAnswer b (tried o (run im b) m).answer
    by none f = run_ends im b m f (length im.code) refl
    by (some k) f = refusal_numbered k (failing_numbered _ k (call_numbered (run im b) (found m.state m.lent)) f)

-- any image on any buffers
pub start-answers : (im : Image) (base : ℕ) (l : Lent) → StartAnswer (start im base l)
unfolding start starts
start-answers im base l = by (failing (image_tests (buffers_ok base l) im)) refl
  where
    by : (o : Option ℕ) → failing (image_tests (buffers_ok base l) im) ≡ o → StartAnswer (starts o base l)
    by none f = tt
    by (some k) f = refusal_numbered k (failing_numbered _ k (image_alone _ im) f)

act-refused : (k : Call) (m : Machine) (e : ℕ) → (act k m).answer ≡ refused e → (act k m).machine ≡ m
unfolding act run_call host_call
act-refused (run im b) m e h = absurd (runs-ends (sizes m.lent) im b (length im.code) (view m) e h)
act-refused (setting k) m e h = cc
act-refused (host k) m e h = granted-refused _ k m _ e h

-- 'a refusal changes no buffer', nor the state: of every call, and with the numbers of running out as well
pub refusal_changes_nothing : (k : Call) (m : Machine) (e : ℕ) → (perform k m).answer ≡ refused e → (perform k m).machine ≡ m
unfolding perform tried
refusal_changes_nothing k m e h = by (failing (tests k m.state m.lent)) (unfold perform in h)
  where
    by : (o : Option ℕ) → (tried o k m).answer ≡ refused e → (tried o k m).machine ≡ m
    by none q = act-refused k m e q
    by (some n) q = refl

-- ---- a run that is not refused

not_refused : (b : ℕ) (a : Answer) → RunAnswer b a → ((e : ℕ) → a ≡ refused e → ⊥) → RunEnds b a
not_refused b (ended e pc steps) h n = h
not_refused b (value v) h n = h
not_refused b done h n = h
not_refused b (refused e) h n = n e refl

-- a run whose tests have passed comes to a listed end within its budget
pub passed_ends : (im : Image) (b : ℕ) (m : Machine) → failing (tests (run im b) m.state m.lent) ≡ none
    → RunEnds b (perform (run im b) m).answer
unfolding perform tried act run_call
passed_ends im b m f =
    rw f (not_refused b _ (run_ends im b m f (length im.code) refl) (runs-ends (sizes m.lent) im b (length im.code) (view m)))
