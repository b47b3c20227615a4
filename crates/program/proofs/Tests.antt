-- Lists of tests: which one fails, of two lists in a row. Assumes nothing.
use mathlib.Core.Path.{◌≡◌, refl}
use Prim.Native.Nat.{ℕ}
use mathlib.Core.Bool.{Bool, true, false}
use mathlib.Core.Option.{Option, none, some}
use mathlib.Core.List.{List, [], ◌∷◌, ◌++◌}
use Rattle.program.specs.Image.{Test, failing}

pub failing-cons : (t : Test) (ts : List Test) → failing (t ∷ ts) ≡ none → (t.passes ≡ true) × (failing ts ≡ none)
unfolding failing
failing-cons t ts h = by t.passes refl (unfold failing in h)
  where
    by : (b : Bool) → t.passes ≡ b → ◌≡◌ {A = Option ℕ} (elim b [ true ↦ failing ts | false ↦ some t.number ]) none
        → (t.passes ≡ true) × (failing ts ≡ none)
    by true p q = (p, q)
    by false p q = (cc, cc)

pub failing-here : (ts us : List Test) (k : ℕ) → failing ts ≡ some k → failing (ts ++ us) ≡ some k
unfolding failing
failing-here [] us k e = cc
failing-here (t ∷ ts) us k e = by t.passes refl (failing-here ts us k) (unfold failing in e)
  where
    by : (p : Bool) → t.passes ≡ p → (failing ts ≡ some k → failing (ts ++ us) ≡ some k)
        → (elim p [ true ↦ failing ts | false ↦ some t.number ]) ≡ some k → failing (t ∷ ts ++ us) ≡ some k
    by true p ih q = rw p (ih q)
    by false p ih q = rw p q

pub failing_later : (ts us : List Test) → failing ts ≡ none → failing (ts ++ us) ≡ failing us
unfolding failing
failing_later [] us e = refl
failing_later (t ∷ ts) us e = let k = failing-cons t ts e in rw k.0 (failing_later ts us k.1)

pub failing-first : (ts us : List Test) → failing (ts ++ us) ≡ none → failing ts ≡ none
unfolding failing
failing-first [] us e = refl
failing-first (t ∷ ts) us e = let k = failing-cons t (ts ++ us) e in rw k.0 (failing-first ts us k.1)
