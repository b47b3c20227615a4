-- A call by its tests: refused by the first that fails, or done. Assumes nothing.
use mathlib.Core.Path.{◌≡◌, refl}
use Prim.Native.Nat.{ℕ}
use mathlib.Core.Option.{none, some}
use Rattle.program.specs.Image.{failing}
use Rattle.vm.specs.Machine.{Machine, Call, Called, refused, tests, act, tried, perform}

abbrev pub refuses : ℕ → Machine → Called
refuses e m = record { answer = refused e; machine = m }

module _ (k : Call) (m : Machine) where
  pub refused-is : (e : ℕ) → failing (tests k m.state m.lent) ≡ some e → refuses e m ≡ perform k m
  unfolding perform tried
  refused-is e f = rw f refl

  pub acted_is : failing (tests k m.state m.lent) ≡ none → act k m ≡ perform k m
  unfolding perform tried
  acted_is f = rw f refl
