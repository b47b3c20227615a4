-- No call changes how many registers there are. Assumes nothing.
use mathlib.Core.Path.{◌≡◌, refl, ap, ◌∙◌}
use Prim.Native.Nat.{ℕ, zero, suc}
use mathlib.Core.Bool.{Bool, true, false, ◌||◌}
use mathlib.Core.Option.{Option, none, some}
use lib.ListN.{length, length-set}
use lib.Dec.{ltb, eqb}
use Rattle.program.specs.Image.{Image, failing}
use Rattle.vm.specs.Core.{Sizes, Core, set_pc, set_frames}
use Rattle.vm.specs.Names.{Given}
use Rattle.vm.specs.Run.{step, go, entered, stored}
use Rattle.vm.specs.Machine.{Machine, sizes, view, with_pages, with_names, with_frames, with_regs, laid, Call, run, setting, host, reset}
use Rattle.vm.specs.Machine.{put_pc, put_reg, Host, allocate, option, intern, intern_small, Called, ran, idle, runs, with_setting, run_leaves}
use Rattle.vm.specs.Machine.{host_leaves, granted, host_call, run_call, act, tests, tried, perform}
use Rattle.vm.proofs.Runs.{runs-go, runs_past}
use Rattle.vm.proofs.Every.{every_map, apply_every, step_every, go_every}

-- ---- runs

go-regs : (n : Sizes) (im : Image) (b : ℕ) (c : Core) → length (go n im b c).core.regs ≡ length c.regs
go-regs n im b c =
    let As : Core → Core → Type 0 = λ e d. length d.regs ≡ length e.regs in
    go_every (As c) n im (λ d h. every_map (As d) (As c) (λ e k. k ∙ h) (step n im d)
    (step_every (As d) n im d refl
    (apply_every (λ r l. length r ≡ length d.regs) d refl (λ r dst v k. length-set r dst v ∙ k) (λ a v. refl)
    (λ dst kind k. length-set d.regs dst _)))) b c refl

abbrev SameRegs : Core → Core → Type 0
SameRegs c d = d.regs ≡ c.regs

stored-regs : (e p : ℕ) (c : Core) → SameRegs c (stored e p c)
unfolding stored set_pc
stored-regs e p c = elim (eqb e 0 || eqb e 5) as (λ t. SameRegs c (elim t [ true ↦ c | false ↦ set_pc p c ])) [ true ↦ refl | false ↦ refl ]

runs_case : (n : Sizes) (im : Image) (b k : ℕ) (c : Core) (t : Bool) → ltb c.pc (suc k) ≡ t
    → length (runs n im b (suc k) c).core.regs ≡ length c.regs
unfolding ran idle entered set_frames
runs_case n im b k c false q = rw (runs_past n im b k c q) (ap length (stored-regs 0 c.pc (entered (suc k) c)))
runs_case n im b k c true q = rw (runs-go n im b k c q) (ap length (stored-regs _ c.pc _) ∙ go-regs n im b (entered (suc k) c))

runs-regs : (n : Sizes) (im : Image) (b k : ℕ) (c : Core) → length (runs n im b k c).core.regs ≡ length c.regs
unfolding runs
runs-regs n im b zero c = refl
runs-regs n im b (suc k) c = runs_case n im b k c (ltb c.pc (suc k)) refl

-- ---- calls

module _ (m : Machine) where
  -- a call that leaves as many registers as there were
  abbrev Same : Called → Type 0
  Same c = length c.machine.state.regs ≡ length m.state.regs

  granted-same : (o : Option ℕ) (k : Host) (g : Given) → Same (granted o k m g)
  unfolding granted host_leaves with_pages with_names
  granted-same (some e) k g = refl
  granted-same none (allocate kind align n) g = refl
  granted-same none (option o) g = refl
  granted-same none (intern s) g = refl
  granted-same none (intern_small n w) g = refl

  act-same : (k : Call) → Same (act k m)
  unfolding act run_call run_leaves laid host_call with_setting with_regs with_frames view
  act-same (run im b) = runs-regs (sizes m.lent) im b (length im.code) (view m)
  act-same (setting reset) = refl
  act-same (setting (put_pc p)) = refl
  act-same (setting (put_reg r v)) = length-set m.state.regs r v
  act-same (host k) = granted-same _ k _

  tried_same : (o : Option ℕ) (k : Call) → Same (tried o k m)
  unfolding tried
  tried_same none k = act-same k
  tried_same (some e) k = refl

  pub call_same : (k : Call) → Same (perform k m)
  unfolding perform
  call_same k = tried_same (failing (tests k m.state m.lent)) k
