-- What a run and a host call leave alone: the base, and where no name is interned slots and names; and that a run stays within what is
-- lent. Assumes nothing.
use Rattle.std.specs.Prelude as std
use mathlib.Core.Path.{◌≡◌, refl, ◌∙◌}
use Prim.Native.Nat.{ℕ}
use mathlib.Core.Bool.{Bool, true, false}
use mathlib.Core.Option.{none}
use mathlib.Core.List.{List}
use Rattle.gc.specs.Pages.{Pages, block, pushed, fitted, allocated, holds}
use Rattle.std.specs.Prelude as std
use Rattle.effects.specs.declared.Effect.{Effect}
use Rattle.vm.specs.Core.{Core, Memory, Sizes, used, short, set_pages, set_bytes}
use Rattle.program.specs.Image.{Image}
use Rattle.vm.specs.Run.{Step, stored8, apply, step, go}
use Rattle.vm.specs.Names as Names
use Rattle.vm.proofs.Every.{Every, every_map, apply_every, step_fits, go_every}

-- slots, names and base are as they were
pub record Kept (c d : Memory) : Type 0 where
  pub slots : d.slots ≡ c.slots
  pub names : d.names ≡ c.names
  pub base : d.pages.base ≡ c.pages.base

pub kept : (c : Memory) → Kept c c
kept c = record { slots = refl; names = refl; base = refl }

kept_next : {c d e : Memory} → Kept c d → Kept d e → Kept c e
kept_next p q = record { slots = q.slots ∙ p.slots; names = q.names ∙ p.names; base = q.base ∙ p.base }

fitted-base : (b : Bool) (P flags n : ℕ) (p : Pages) → (fitted b P flags n p).pages.base ≡ p.base
unfolding fitted block pushed
fitted-base true P flags n p = refl
fitted-base false P flags n p = refl

pub allocated-base : (P flags n : ℕ) (p : Pages) → (allocated P flags n p).pages.base ≡ p.base
unfolding allocated
allocated-base P flags n p = fitted-base (holds n p) P flags n p

-- ---- an instruction, and held to what is lent

abbrev pub KeptStep : Memory → Step → Type 0
KeptStep c x = Every (λ d. Kept c d.memory) x

pub apply-kept : (e : Effect) (c : Core) → KeptStep c.memory (apply e c)
unfolding set_pages set_bytes stored8
apply-kept e c =
    let same = kept c.memory in
    apply_every (λ r l. Kept c.memory l) c same (λ r dst v k. k) (λ a v. record { slots = refl; names = refl; base = refl })
    (λ dst kind n. record { slots = refl; names = refl; base = allocated-base _ kind n c.memory.pages }) e

abbrev pub GoodStep : Sizes → Memory → Step → Type 0
GoodStep n c x = Every (λ d. Kept c d.memory × (short n (used d) ≡ none)) x

pub step_good : (n : Sizes) (im : Image) (c : Core) → short n (used c) ≡ none → GoodStep n c.memory (step n im c)
step_good n im c own = step_fits (λ d. Kept c.memory d.memory) n im c (kept c.memory) (λ e. apply-kept e c) own

-- ---- a run

abbrev pub Good : Sizes → Core → Core → Type 0
Good n c d = Kept c.memory d.memory × (short n (used d) ≡ none)

pub go_good : (n : Sizes) (im : Image) (b : ℕ) (c : Core) → short n (used c) ≡ none → Good n c (go n im b c).core
go_good n im b c h =
    go_every (Good n c) n im (λ d k. every_map (Good n d) (Good n c) (λ e g. (kept_next k.0 g.0, g.1)) (step n im d)
    (step_good n im d k.1)) b c (kept c.memory, h)

-- ---- a host call

pub allocates-kept : (kind n : ℕ) (l : Memory) → Kept l (Names.allocates kind n l).memory
unfolding Names.allocates Names.as_given set_pages
allocates-kept kind n l = record { slots = refl; names = refl; base = allocated-base _ kind n l.pages }

pub boxed-kept : (tag v : ℕ) (l : Memory) → Kept l (Names.boxed tag v l).memory
unfolding Names.boxed Names.filled set_pages set_bytes
boxed-kept tag v l = record { slots = refl; names = refl; base = allocated-base _ 2 16 l.pages }

pub optional-kept : (o : std.Option ℕ) (l : Memory) → Kept l (Names.optional o l).memory
unfolding Names.optional
optional-kept std.None l = kept l
optional-kept (std.Some v) l = boxed-kept 1 v l

-- an interning keeps the base
fresh-base : (s : List ℕ) (l : Memory) → (Names.fresh s l).memory.pages.base ≡ l.pages.base
unfolding Names.fresh Names.tabled Names.filled set_pages set_bytes
fresh-base s l = allocated-base _ 3 _ l.pages

known-base : (s : List ℕ) (l : Memory) (p : std.Option ℕ) → (Names.known s l p).memory.pages.base ≡ l.pages.base
unfolding Names.known
known-base s l (std.Some v) = refl
known-base s l std.None = fresh-base s l

pub interned-base : (s : List ℕ) (l : Memory) → (Names.interned s l).memory.pages.base ≡ l.pages.base
unfolding Names.interned
interned-base s l = known-base s l _
