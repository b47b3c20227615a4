-- What a reading says of its text: an image's header, or that it is none. Assumes nothing.
use mathlib.Core.Path.{◌≡◌, refl}
use Prim.Native.Nat.{ℕ}
use mathlib.Core.Bool.{Bool, true, false, cond}
use mathlib.Core.List.{List}
use Rattle.anomaly.specs.declared.Refusal.{Refusal}
use Rattle.text.specs.declared.Head.{Head}
use Rattle.std.proofs.Common.{Result, Ok, Err}
use Rattle.text.specs.Text.{text_ok, head_of, read_of}

read_by : (t : Bool) (h k : Head) → cond {A = Result Head Refusal} t (Ok h) (Err Refusal.Text) ≡ Ok k → (t ≡ true) × (k ≡ h)
read_by true h k e = (refl, cc)
read_by false h k e = cc

none_by : (t : Bool) (h : Head) (why : Refusal) → cond {A = Result Head Refusal} t (Ok h) (Err Refusal.Text) ≡ Err why → (t ≡ false) × (why ≡ Refusal.Text)
none_by true h why e = cc
none_by false h why e = (refl, cc)

pub read_head : (s : List ℕ) (h : Head) → read_of s ≡ Ok h → (text_ok s ≡ true) × (h ≡ head_of s)
unfolding read_of
read_head s h e = read_by (text_ok s) (head_of s) h e

pub read_nothing : (s : List ℕ) (why : Refusal) → read_of s ≡ Err why → (text_ok s ≡ false) × (why ≡ Refusal.Text)
unfolding read_of
read_nothing s why e = none_by (text_ok s) (head_of s) why e
