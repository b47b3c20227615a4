-- Numbers of as many digits each, read one by one, and how many there are. Assumes nothing.
use Prim.Native.Nat.{ℕ, zero, suc, ◌+◌, ◌/◌, ◌<◌}
use mathlib.Core.Path.{◌≡◌, refl, sym, ap, ◌∙◌}
use mathlib.Core.List.{List, [], ◌∷◌, ◌++◌}
use lib.ListN.{length, take, drop, length-append}
use lib.Seq.{take_at, drop_at}
use native.Mathlib.Nat.{add-div_left, div-eq_of_lt}
use native.Mathlib.Omega.{arith}
use Rattle.std.proofs.Common.{Option, None}
use Rattle.std.specs.Option.{option_to_list}
use Rattle.std.proofs.lemmas.List.{take_all, take-append-drop}
use Rattle.text.specs.Digits.{field, numbers}

-- all that stand in p
abbrev pub all_in : ℕ → List ℕ → List ℕ
all_in width p = numbers width (length p / width) p

pub numbers_more : {width : ℕ} (p x more : List ℕ) → 0 < width → p ≡ x ++ more → length x ≡ width → all_in width p ≡ field 0 width x ∷ all_in width more
unfolding numbers
numbers_more {width} p x more h e long =
    let count : length (x ++ more) / width ≡ suc (length more / width) =
    ap (λ (n : ℕ). n / width) (length-append x more ∙ ap (λ (n : ℕ). n + length more) long) ∙ add-div_left (length more) h ∙ omega arith in
    rw (e, count, take_at x more width long, drop_at x more width long, take_all width x (omega arith))

pub numbers-none : {width : ℕ} (p : List ℕ) → length p < width → all_in width p ≡ []
unfolding numbers
numbers-none {width} p h = rw (div-eq_of_lt h)

pub length-numbers : (width count : ℕ) (p : List ℕ) → length (numbers width count p) ≡ count
unfolding numbers
length-numbers width zero p = refl
length-numbers width (suc count) p = ap suc (length-numbers width count (drop width p))

-- one number that stands alone, and all in p
abbrev pub left : Option ℕ → ℕ → List ℕ → List ℕ
left one width p = option_to_list one ++ all_in width p

module _ {one after : Option ℕ} {width : ℕ} (p : List ℕ) (none : one ≡ None) (still : after ≡ None) where
  pub left_end : length p < width → (left one width p ≡ []) × (left after width p ≡ [])
  left_end h = (rw (none, numbers-none p h), rw (still, numbers-none p h))

  pub left_next : 0 < width → {x more : List ℕ} → (x ≡ take width p) × (more ≡ drop width p) × (length x ≡ width) → left one width p ≡ field 0 width x ∷ left after width more
  left_next h {x} {more} cut = rw (none, still) (numbers_more p x more h (rw (cut.0, cut.1) (sym (take-append-drop width p))) cut.2)
