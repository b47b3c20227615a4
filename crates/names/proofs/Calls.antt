-- A small name that a call is given: a name, or refused by 17. Assumes nothing.
use mathlib.Core.Path.{◌≡◌, refl}
use mathlib.Core.Bool.{Bool, true, false}
use Prim.Native.Nat.{ℕ}
use mathlib.Core.Option.{Option, none, some}
use mathlib.Core.List.{[], ◌∷◌}
use Rattle.std.specs.Prelude as std
use Rattle.std.specs.Prelude.{◌↔◌, IsSome, IsTrue, IfSome, IfOk, ok_or}
use Rattle.anomaly.specs.declared.Refusal.{Refusal}
use Rattle.string.specs.declared.name.SmallName.{SmallName}
use Rattle.string.specs.Payload.{small_name}
use Rattle.program.specs.Image.{refused_with, test, failing}
use Rattle.vm.specs.Names.{Given}
use Rattle.vm.specs.Machine.{Machine, intern, intern_small, granted, host_call, hosted, act, host_leaves}
use Rattle.names.specs.Interned.{Interns}

granted-small : (n w : ℕ) (m : Machine) (t : Option ℕ) (g : Given) → granted t (intern_small n w) m g ≡ granted t (intern (small_name n w)) m g
unfolding granted host_leaves
granted-small n w m none g = refl
granted-small n w m (some e) g = refl

small-interns : (n w : ℕ) → Interns (intern_small n w) (small_name n w)
unfolding act hosted host_call
small-interns n w m = granted-small n w m _ _

pub small_named : (o : std.Option SmallName) (why : Refusal) (n w : ℕ) → IfSome o (λ x. (x.len ≡ n) × (x.word ≡ w))
    → IfOk (ok_or o why) (λ x. Interns (intern_small n w) (small_name x.len x.word))
small_named std.None why n w parts = tt {0}
small_named (std.Some x) why n w parts = rw (parts.0, parts.1) (small-interns n w)

pub small_refused : (o : std.Option SmallName) (b : Bool) → (IsSome o ↔ IsTrue b)
    → refused_with (ok_or o Refusal.SmallString) ≡ failing (test b 17 ∷ [])
unfolding failing
small_refused std.None true h = let never : ◌≡◌ {A = Bool} false true = h.1 refl in cc
small_refused std.None false h = refl
small_refused (std.Some x) true h = refl
small_refused (std.Some x) false h = let never : ◌≡◌ {A = Bool} false true = h.0 refl in cc
