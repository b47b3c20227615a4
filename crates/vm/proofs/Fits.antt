-- What fits the smaller fits the larger. Each size is named in this file and nowhere else in the laws. Assumes nothing.
use mathlib.Core.Path.{◌≡◌, refl}
use Prim.Native.Nat.{ℕ, zero, suc, ◌≤◌}
use mathlib.Core.Bool.{Bool, true, false}
use mathlib.Core.List.{List, [], ◌∷◌, ◌++◌}
use lib.ListN.{length, take}
use mathlib.Core.Option.{none, some}
use native.Mathlib.Omega.{arith}
use lib.Dec.{leb}
use borrow.Author.Tests.{leb-true, le-leb}
use Rattle.gc.specs.Lent.{pages_of}
use Rattle.program.specs.Image.{Test, test, failing}
use Rattle.program.proofs.Tests.{failing-cons}
use Rattle.vm.specs.Core.{Core, Sizes, used, needs, short, spent, ◌⊑◌, need_frames, need_heap, need_slots}
use Rattle.vm.specs.Machine.{Machine, sizes, memory_of, view}

-- ---- lists of tests: each number that one can fail with is as P says

abbrev pub Each : (ℕ → Type 0) → List Test → Type 0
Each P [] = Unit {0}
Each P (t ∷ ts) = (t.passes ≡ false → P t.number) × Each P ts

pub each_append : (P : ℕ → Type 0) (ts us : List Test) → Each P ts → Each P us → Each P (ts ++ us)
each_append P [] us h k = k
each_append P (t ∷ ts) us h k = (h.0, each_append P ts us h.1 k)

pub failing_each : (P : ℕ → Type 0) (ts : List Test) (k : ℕ) → Each P ts → failing ts ≡ some k → P k
unfolding failing
failing_each P [] k u e = cc
failing_each P (t ∷ ts) k u e = by t.passes refl (failing_each P ts k u.1) (unfold failing in e)
  where
    by : (b : Bool) → t.passes ≡ b → (failing ts ≡ some k → P k) → (elim b [ true ↦ failing ts | false ↦ some t.number ]) ≡ some k → P k
    by true p ih q = ih q
    by false p ih q = let z : t.number ≡ k = cc in rw (← z) (u.0 p)

-- ---- what is short

-- whatever is lacking, its number is one of running out
pub short-spent : (n u : Sizes) {e : ℕ} → short n u ≡ some e → spent e ≡ true
unfolding short needs spent
short-spent n u h = failing_each (λ k. spent k ≡ true) (needs n u) _ (λ _. refl, (λ _. refl, (λ _. refl, tt))) h

pub fits_of : (n u : Sizes) → short n u ≡ none → u ⊑ n
unfolding short needs
fits_of n u h =
    let frames = failing-cons _ _ h in
    let slots = failing-cons _ _ frames.1 in
    let heap = failing-cons _ _ slots.1 in
    record { frames = leb-true _ _ frames.0; heap = leb-true _ _ heap.0; slots = leb-true _ _ slots.0 }

pub none_of : (n u : Sizes) → u ⊑ n → short n u ≡ none
unfolding short needs failing
none_of n u h = rw (le-leb _ _ h.frames, le-leb _ _ h.slots, le-leb _ _ h.heap) refl

pub short_up : (n m u : Sizes) → n ⊑ m → short n u ≡ none → short m u ≡ none
short_up n m u le h = none_of m u (let k = fits_of n u h in record { frames = omega arith; heap = omega arith; slots = omega arith })

-- ---- a use that differs in one size from one that fits

module _ (n u : Sizes) (h : u ⊑ n) (k : ℕ) where
  pub fit_frames : k ≤ n.frames → need_frames k u ⊑ n
  fit_frames r = record { frames = r; heap = h.heap; slots = h.slots }

  pub fit_heap : k ≤ n.heap → need_heap k u ⊑ n
  fit_heap r = record { frames = h.frames; heap = r; slots = h.slots }

  pub fit_slots : k ≤ n.slots → need_slots k u ⊑ n
  fit_slots r = record { frames = h.frames; heap = h.heap; slots = r }

  pub short-frames : short n (need_frames k u) ≡ failing (test (leb k n.frames) 3 ∷ [])
  unfolding short needs failing
  short-frames = rw (le-leb _ _ h.slots, le-leb _ _ h.heap) refl

  pub short-heap : short n (need_heap k u) ≡ failing (test (leb k n.heap) 2 ∷ [])
  unfolding short needs failing
  short-heap = rw (le-leb _ _ h.frames, le-leb _ _ h.slots) refl

  pub short-names : (j : ℕ) → short n (need_slots j (need_heap k u)) ≡ failing (test (leb j n.slots) 18 ∷ test (leb k n.heap) 2 ∷ [])
  unfolding short needs failing
  short-names j = rw (le-leb _ _ h.frames) refl

-- ---- the part in use fits

pub take-fits : (n : ℕ) (l : List ℕ) → length (take n l) ≤ length l
take-fits zero l = omega arith
take-fits (suc n) [] = omega arith
take-fits (suc n) (x ∷ l) = let h = take-fits n l in omega arith

pub view-within : (m : Machine) → used (view m) ⊑ sizes m.lent
unfolding used view sizes memory_of pages_of
view-within m = record {
  frames = take-fits m.state.depth m.lent.frames;
  heap = take-fits m.state.gc.pushed m.lent.heap;
  slots = take-fits m.state.strings.active m.lent.slots;
}

-- a core that uses of each buffer what the machine does
pub view-fits : (m : Machine) (c : Core) → used c ≡ used (view m) → short (sizes m.lent) (used c) ≡ none
view-fits m c e = rw e (none_of _ _ (view-within m))
