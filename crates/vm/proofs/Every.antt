-- What every step keeps of registers and memory: through an instruction, through what is lent, through a run. Assumes nothing.
use mathlib.Core.Path.{◌≡◌, refl}
use Prim.Native.Nat.{ℕ, zero, suc}
use mathlib.Core.Bool.{Bool, true, false}
use mathlib.Core.Option.{Option, none, some}
use mathlib.Core.List.{List}
use lib.ListN.{set}
use Rattle.gc.specs.Pages.{allocated}
use Rattle.gc.specs.Metadata.{bits_of}
use Rattle.gc.specs.Lent.{page_size}
use Rattle.effects.specs.declared.Effect.{Effect}
use Rattle.effects.specs.declared.Effect.TheVariants as effect
use Rattle.program.specs.Image.{Image}
use Rattle.vm.specs.Core.{Core, Memory, Sizes, used, short, set_regs, set_pc, set_frames, set_memory, set_pages}
use Rattle.vm.specs.Run.{Step, next, halted, stop, provided, forward, stored8, returned, block_to, apply, asked, unless, limited}
use Rattle.vm.specs.Run.{step, after, go}
use Rattle.vm.proofs.Upward.{go-next, go-halted, go-stop, last_of}

-- a step goes on to a core with P, or leaves one
abbrev pub Every : (Core → Type 0) → Step → Type 0
Every P (next d) = P d
Every P halted = Unit {0}
Every P (stop e d) = P d

pub every_map : (P Q : Core → Type 0) → ((d : Core) → P d → Q d) → (x : Step) → Every P x → Every Q x
every_map P Q f (next d) h = f d h
every_map P Q f halted h = tt
every_map P Q f (stop e d) h = f d h

-- ---- an instruction, by what it does to registers and memory

module _ (P : List ℕ → Memory → Type 0) where
  abbrev pub Of : Core → Type 0
  Of d = P d.regs d.memory

  provided_every : (b : Bool) (e : ℕ) (c d : Core) → Of c → Of d → Every Of (provided b e c d)
  unfolding provided
  provided_every true e c d g h = h
  provided_every false e c d g h = g

  returned_every : (k : ℕ) (c : Core) → Of c → Every Of (returned k c)
  unfolding returned set_pc set_frames
  returned_every zero c h = h
  returned_every (suc d) c h = h

  module _ (c : Core) (same : Of c) (sets : (r : List ℕ) (dst v : ℕ) → P r c.memory → P (set r dst v) c.memory)
      (stores : (a v : ℕ) → P c.regs (set_pages (stored8 a v c.memory.pages) c.memory))
      (takes : (dst kind n : ℕ)
      → P (set c.regs dst (allocated page_size kind n c.memory.pages).address)
      (set_pages (allocated page_size kind n c.memory.pages).pages c.memory)) where
    pub apply_every : (e : Effect) → Every Of (apply e c)
    unfolding apply forward set_pc set_regs set_frames set_memory block_to
    apply_every (effect.Set dst v) = sets _ dst v same
    apply_every effect.Skip = same
    apply_every (effect.Goto target) = same
    apply_every (effect.Call func) = same
    apply_every effect.Ret = returned_every _ c same
    apply_every (effect.Load dst base offset) = provided_every _ 6 c _ same (sets _ dst _ same)
    apply_every (effect.Store base offset v) = provided_every _ 6 c _ same (stores _ v)
    apply_every (effect.Alloc kind dst size) = takes dst (bits_of kind) size
    apply_every (effect.Stop e) = same
    apply_every (effect.Unlisted e) = same
    apply_every effect.Halt = tt

-- an instruction that stops by itself leaves all as it was
abbrev pub Stays : Core → Step → Type 0
Stays c (next d) = Unit {0}
Stays c halted = Unit {0}
Stays c (stop e d) = d ≡ c

provided_stays : (b : Bool) (e : ℕ) (c d : Core) → Stays c (provided b e c d)
unfolding provided
provided_stays true e c d = tt
provided_stays false e c d = refl

returned_stays : (k : ℕ) (c : Core) → Stays c (returned k c)
unfolding returned
returned_stays zero c = refl
returned_stays (suc d) c = tt

pub apply_stays : (e : Effect) (c : Core) → Stays c (apply e c)
unfolding apply block_to
apply_stays (effect.Set dst v) c = tt
apply_stays effect.Skip c = tt
apply_stays (effect.Goto target) c = tt
apply_stays (effect.Call func) c = tt
apply_stays effect.Ret c = returned_stays _ c
apply_stays (effect.Load dst base offset) c = provided_stays _ 6 c _
apply_stays (effect.Store base offset v) c = provided_stays _ 6 c _
apply_stays (effect.Alloc kind dst size) c = tt
apply_stays (effect.Stop e) c = refl
apply_stays (effect.Unlisted e) c = refl
apply_stays effect.Halt c = tt

-- ---- held to what is lent: it is kept, and fits

module _ (P : Core → Type 0) (n : Sizes) (c : Core) where
  unless_every : (d : Core) (o : Option ℕ) → P c → P d → Every P (unless o c d)
  unfolding unless
  unless_every d none g h = h
  unless_every d (some k) g h = g

  limited_every : (x : Step) → P c → Every P x → Every P (limited n c x)
  unfolding limited
  limited_every (next d) g h = unless_every d _ g h
  limited_every halted g h = tt
  limited_every (stop e d) g h = h

module _ (n : Sizes) (c : Core) (own : short n (used c) ≡ none) where
  abbrev Fitting : Step → Type 0
  Fitting x = Every (λ d. short n (used d) ≡ none) x

  unless-fits : (d : Core) (o : Option ℕ) → short n (used d) ≡ o → Fitting (unless o c d)
  unfolding unless
  unless-fits d none e = e
  unless-fits d (some k) e = own

  limited-fits : (x : Step) → Stays c x → Fitting (limited n c x)
  unfolding limited
  limited-fits (next d) q = unless-fits d _ refl
  limited-fits halted q = tt
  limited-fits (stop e d) q = rw q own

every_both : (P Q : Core → Type 0) (x : Step) → Every P x → Every Q x → Every (λ d. P d × Q d) x
every_both P Q (next d) p q = (p, q)
every_both P Q halted p q = tt
every_both P Q (stop e d) p q = (p, q)

module _ (P : Core → Type 0) (n : Sizes) (im : Image) (c : Core) (same : P c) (asks : (e : Effect) → Every P (apply e c)) where
  pub step_every : Every P (step n im c)
  unfolding step
  step_every = limited_every P n c (apply (asked im c) c) same (asks (asked im c))

  pub step_fits : short n (used c) ≡ none → Every (λ d. P d × (short n (used d) ≡ none)) (step n im c)
  unfolding step
  step_fits own = every_both P (λ d. short n (used d) ≡ none) (step n im c) step_every
      (limited-fits n c own (apply (asked im c) c) (apply_stays (asked im c) c))

-- ---- a run

module _ (P : Core → Type 0) (n : Sizes) (im : Image) (each : (c : Core) → P c → Every P (step n im c)) where
  go_case : (b : ℕ) (c : Core) (x : Step) → step n im c ≡ x → Every P x → P c → ((d : Core) → P d → P (go n im b d).core)
      → P (go n im (suc b) c).core
  unfolding after go
  go_case b c (next d) p s h ih = rw (go-next n im b c d p) (ih d s)
  go_case b c halted p s h ih = rw (go-halted n im b c p) h
  go_case b c (stop k d) p s h ih = rw (go-stop n im b c d k p) s

  pub go_every : (b : ℕ) (c : Core) → P c → P (go n im b c).core
  unfolding go
  go_every zero c h = h
  go_every (suc b) c h = go_case b c (step n im c) refl (each c h) h (go_every b)

-- ---- what a run leaves: the last core on its way

unless_stays : (o : Option ℕ) (c d : Core) → Stays c (unless o c d)
unfolding unless
unless_stays none c d = tt
unless_stays (some e) c d = refl

limited_stays : (n : Sizes) (c : Core) (x : Step) → Stays c x → Stays c (limited n c x)
unfolding limited
limited_stays n c (next d) h = unless_stays _ c d
limited_stays n c halted h = tt
limited_stays n c (stop e d) h = h

module _ (n : Sizes) (im : Image) where
  pub step_stays : (c : Core) → Stays c (step n im c)
  unfolding step
  step_stays c = limited_stays n c _ (apply_stays _ c)

  left_case : (b : ℕ) (c : Core) (x : Step) → step n im c ≡ x → Stays c x → ((d : Core) → (go n im b d).core ≡ last_of d (go n im b d).trail)
      → (go n im (suc b) c).core ≡ last_of c (go n im (suc b) c).trail
  unfolding after go last_of
  left_case b c (next d) p h ih = rw (go-next n im b c d p) (ih d)
  left_case b c halted p h ih = rw (go-halted n im b c p) refl
  left_case b c (stop e d) p h ih = rw (go-stop n im b c d e p) h

  pub go_left : (b : ℕ) (c : Core) → (go n im b c).core ≡ last_of c (go n im b c).trail
  unfolding go last_of
  go_left zero c = refl
  go_left (suc b) c = left_case b c (step n im c) refl (step_stays c) (go_left b)
