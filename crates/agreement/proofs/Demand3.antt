-- Demand 3, in both its forms: machines that differ in what is lent agree until the smaller runs out. Assumes nothing.
use mathlib.Core.Path.{◌≡◌, refl, sym, ap, ap₂, ◌∙◌}
use Prim.Native.Nat.{ℕ, ◌+◌, ◌≤◌}
use mathlib.Core.Bool.{true, false, true≢false}
use mathlib.Core.Option.{Option, none, some}
use mathlib.Core.List.{List, [], ◌∷◌, ◌++◌}
use native.Mathlib.Omega.{arith}
use lib.ListN.{length}
use Rattle.vm.specs.Core.{Sizes, Core, used, short, spent, ◌⊑◌, set_pc, set_memory}
use Rattle.program.specs.Image.{Image, failing}
use Rattle.vm.specs.Machine.{Machine, sizes, state_of, Host, Call, run, setting, host, Answer, ended, value, done, refused, ran_out, Called, runs}
use Rattle.vm.specs.Machine.{hosted, granted, act, tried, answers_to}
use Rattle.vm.proofs.Fits.{short-spent, short_up}
use Rattle.vm.proofs.Runs.{runs_good, CutOn, runs_up}
use Rattle.vm.proofs.Holds.{Holds}
use Rattle.vm.specs.Machine.{tests_by}
use Rattle.vm.proofs.Refusals.{tests_on, run_unspent}
use Rattle.vm.proofs.Calls.{setting_on, holds-run, holds-setting, holds-host, perform-is, run_is, host-is}
use Rattle.vm.proofs.Starting.{first, start-holds}
use Rattle.agreement.specs.Demand3.{Pair, raised, CutAt, Cut, Same, Agree, Demand3, smaller, larger, NoneOut, Level, Demand3Whole}

raised-tests : (k : Call) (m : ℕ) (c : Core) → tests_on (raised k m) c ≡ tests_on k c
unfolding raised tests_on tests_by
raised-tests (run im b) m c = refl
raised-tests (setting k) m c = refl
raised-tests (host k) m c = refl

same : (S L : Sizes) (c : Core) (s l : Machine) → Holds S c s → Holds L c l → Same s l
unfolding Same
same S L c s l hs hl = (hs.state ∙ sym hl.state, hs.core ∙ sym hl.core)

-- after a call that no test refuses the machine holds a core, and it is the same core on both machines where the smaller did not run out
module _ (S L : Sizes) (le : S ⊑ L) (room : 1 ≤ S.frames) (c : Core) (s l : Machine) (hs : Holds S c s) (hl : Holds L c l) where
  record Alike (x y : Called) : Type 0 where
    answer : y.answer ≡ x.answer
    core : Core
    small : Holds S core x.machine
    large : Holds L core y.machine

  run_alike : (im : Image) (b m : ℕ) → ran_out (act (run im b) s).answer ≡ false → Alike (act (run im b) s) (act (run im (b + m)) l)
  run_alike im b m h =
      let k = length im.code in
      let a = runs S im b k c in
      let g = runs_good S im b k c hs.fits in
      let e : runs L im (b + m) k c ≡ a = (runs_up S L le im b m k c).0 (rw (run_is S im b c s hs) at h) in
      rw (run_is S im b c s hs, run_is L im (b + m) c l hl, e)
      (record { answer = refl; core = a.core; small = holds-run S c s hs a g; large = holds-run L c l hl a (g.0, short_up S L _ le g.1) })

  granted_alike : (k : Host) (o : Option ℕ) → short S (used (set_memory (hosted k c.memory).memory c)) ≡ o
      → ran_out (granted o k s (hosted k c.memory)).answer ≡ false
      → Alike (granted o k s (hosted k c.memory))
      (granted (short L (used (set_memory (hosted k c.memory).memory c))) k l (hosted k c.memory))
  unfolding granted ran_out
  granted_alike k none e h =
      let f = short_up S L _ le e in
      rw f (record {
        answer = refl;
        core = set_memory (hosted k c.memory).memory c;
        small = holds-host S c s hs k e;
        large = holds-host L c l hl k f;
      })
  granted_alike k (some x) e h = absurd (true≢false (sym (short-spent S _ e) ∙ h))

  alike : (k : Call) (m : ℕ) → ran_out (act k s).answer ≡ false → Alike (act k s) (act (raised k m) l)
  unfolding raised
  alike (run im b) m h = run_alike im b m h
  alike (setting k) m h = unfold act in
      (record {
        answer = refl;
        core = setting_on k c;
        small = holds-setting S c s hs room k;
        large = holds-setting L c l hl (omega (arith, room, le.frames)) k;
      })
  alike (host k) m h = rw (host-is S k c s hs, host-is L k c l hl) (granted_alike k _ refl (rw (host-is S k c s hs) at h))

  -- the run in which the smaller runs out
  cut_lift : (im : Image) (d : Core) (t : Machine) (a : Answer) → Holds S d t → failing (tests_on (run im 0) c) ≡ none
      → CutOn S L le im (length im.code) c d a → CutAt im t l a
  unfolding CutAt tests_on tests_by tried set_pc state_of
  cut_lift im d t (ended e p n) v f (x, y) =
      let k = length im.code in
      let h = holds-run L c l hl (runs L im n k c) (runs_good L im n k c hl.fits) in
      rw (perform-is L (run im n) c l hl, f, run_is L im n c l hl) (
        x,
        record { state = rw (v.state, h.state) (ap state_of y.same); held = rw (v.core, h.core) y.same },
      )
  cut_lift im d t (value w) v f x = absurd x
  cut_lift im d t done v f x = absurd x
  cut_lift im d t (refused e) v f x = absurd x

  cut_case : (k : Call) → failing (tests_on k c) ≡ none → ran_out (act k s).answer ≡ true → Cut k (act k s).machine l (act k s).answer
  unfolding Cut tests_on tests_by
  cut_case (run im b) f h =
      let k = length im.code in
      let g = runs_good S im b k c hs.fits in
      rw (run_is S im b c s hs)
      (cut_lift im _ _ (runs S im b k c).answer (holds-run S c s hs (runs S im b k c) g) f
      ((runs_up S L le im b 0 k c).1 (rw (run_is S im b c s hs) at h)))
  cut_case (setting k) f h = tt
  cut_case (host k) f h = tt

  refused-cut : (k : Call) (t : Machine) (e : ℕ) → failing (tests_on k c) ≡ some e → spent e ≡ true → Cut k t l (refused e)
  unfolding Cut
  refused-cut (run im b) t e f h = absurd (true≢false (sym h ∙ run_unspent im b c e f))
  refused-cut (setting k) t e f h = tt
  refused-cut (host k) t e f h = tt

-- ---- the list of calls
module _ (S L : Sizes) (le : S ⊑ L) (room : 1 ≤ S.frames) where
  agree_case : (p : Pair) (ps : List Pair) (c : Core) (s l : Machine) → Holds S c s → Holds L c l
      → ((c : Core) (s l : Machine) → Holds S c s → Holds L c l → Agree s l ps) → (t : Option ℕ) → failing (tests_on p.call c) ≡ t
      → Agree s l (p ∷ ps)
  unfolding Agree tried ran_out
  agree_case p ps c s l hs hl ih none e =
      rw (perform-is S p.call c s hs, perform-is L (raised p.call p.more) c l hl, raised-tests, e) (
        same S L c s l hs hl,
        λ h. let q = alike S L le room c s l hs hl p.call p.more h in (q.answer, ih _ _ _ q.small q.large),
        λ h. cut_case S L le room c s l hs hl p.call e h,
      )
  agree_case p ps c s l hs hl ih (some k) e =
      rw (perform-is S p.call c s hs, perform-is L (raised p.call p.more) c l hl, raised-tests, e)
      (same S L c s l hs hl, λ h. (refl, ih c s l hs hl), λ h. refused-cut S L le room c s l hs hl p.call s k e h)

  pub agree : (ps : List Pair) (c : Core) (s l : Machine) → Holds S c s → Holds L c l → Agree s l ps
  unfolding Agree
  agree [] c s l hs hl = same S L c s l hs hl
  agree (p ∷ ps) c s l hs hl = agree_case p ps c s l hs hl (λ c s l. agree ps c s l) (failing (tests_on p.call c)) refl

-- ---- the theorem

pub demand3 : Demand3
unfolding Demand3
demand3 im base small large s l es el le calls =
    let bs = start-holds im base small s es in
    let bl = start-holds im base large l el in
    agree (sizes small) (sizes large) le bs.room calls (first base) s l bs.holds bl.holds

level : (ps : List Pair) (s l : Machine) → ((qs : List Pair) → Agree s l (ps ++ qs)) → NoneOut (answers_to (smaller ps) s).answers → Level s l ps
unfolding Agree answers_to smaller larger NoneOut Cut
level [] s l h n = record { answers = refl; held = h []; cut = λ im b z. (h (record { call = run im b; more = 0 } ∷ [])).2 z }
level (p ∷ ps) s l h n =
    let a = ((h []).1 n.0).0 in
    let r = level ps _ _ (λ qs. ((h qs).1 n.0).1) n.1 in
    record { answers = ap₂ (λ (x : Answer) (xs : List Answer). x ∷ xs) a r.answers; held = r.held; cut = r.cut }

pub demand3_whole : Demand3Whole
unfolding Demand3Whole Demand3
demand3_whole im base small large s l es el le ps n = level ps s l (λ qs. demand3 im base small large s l es el le (ps ++ qs)) n
