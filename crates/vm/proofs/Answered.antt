-- 'Answers are all numbers, pcs, steps and values returned': a call that allocates answers a value, one that sets answers that it is done, a run
-- its end, or any of them a refusal's number, and all these numbers are the table's. Assumes nothing.
use mathlib.Core.Path.{◌≡◌, refl}
use Prim.Native.Nat.{ℕ}
use mathlib.Core.Bool.{Bool, true, false}
use mathlib.Core.Option.{Option, none, some}
use mathlib.Core.List.{[], ◌∷◌}
use borrow.Author.Tests.{le-leb}
use Rattle.anomaly.specs.Table.{is_refusal}
use Rattle.program.specs.Image.{test, failing}
use Rattle.vm.specs.Core.{used, needs, short, set_memory}
use Rattle.vm.specs.Names.{Given}
use Rattle.vm.specs.Machine.{Machine, sizes, view, Setting, Host, Call, run, setting, host, granted, host_call, act}
use Rattle.vm.specs.Machine.{found, tests, tried, perform}
use Rattle.vm.specs.Listed.{SettingAnswer, HostAnswer, CallAnswer}
use Rattle.vm.proofs.Fits.{take-fits}
use Rattle.vm.proofs.Refusals.{failing_numbered, call_numbered}
use Rattle.vm.proofs.Ends.{refusal_numbered, run-answers}

-- the frames in use always fit: what a call that allocates may lack is slots or heap
lacking_listed : (slots heap : Bool) (e : ℕ) → failing (test true 3 ∷ test slots 18 ∷ test heap 2 ∷ []) ≡ some e → is_refusal e ≡ true
unfolding failing
lacking_listed false heap e h = let q : 18 ≡ e = cc in rw (← q) refl
lacking_listed true false e h = let q : 2 ≡ e = cc in rw (← q) refl
lacking_listed true true e h = cc

granted-answers : (k : Host) (m : Machine) (g : Given) (o : Option ℕ) → short (sizes m.lent) (used (set_memory g.memory (view m))) ≡ o
    → HostAnswer (granted o k m g).answer
unfolding granted short needs used set_memory view sizes
granted-answers k m g none e = tt
granted-answers k m g (some n) e = lacking_listed _ _ n (rw (le-leb _ _ (take-fits m.state.depth m.lent.frames)) at e)

-- a call that a test refuses
tests-listed : (k : Call) (m : Machine) (e : ℕ) → failing (tests k m.state m.lent) ≡ some e → is_refusal e ≡ true
unfolding tests
tests-listed k m e f = refusal_numbered e (failing_numbered _ e (call_numbered k (found m.state m.lent)) f)

pub host-answers : (k : Host) (m : Machine) → HostAnswer (perform (host k) m).answer
unfolding perform tried act host_call
host-answers k m = by (failing (tests (host k) m.state m.lent)) refl
  where
    by : (o : Option ℕ) → failing (tests (host k) m.state m.lent) ≡ o → HostAnswer (tried o (host k) m).answer
    by none f = granted-answers k m _ _ refl
    by (some e) f = tests-listed (host k) m e f

pub setting-answers : (k : Setting) (m : Machine) → SettingAnswer (perform (setting k) m).answer
unfolding perform tried act
setting-answers k m = by (failing (tests (setting k) m.state m.lent)) refl
  where
    by : (o : Option ℕ) → failing (tests (setting k) m.state m.lent) ≡ o → SettingAnswer (tried o (setting k) m).answer
    by none f = tt
    by (some e) f = tests-listed (setting k) m e f

-- any call on any machine
pub call-answers : (k : Call) (m : Machine) → CallAnswer k (perform k m).answer
call-answers (run im b) m = run-answers im b m
call-answers (setting k) m = setting-answers k m
call-answers (host k) m = host-answers k m
