-- Which texts are images, and their headers. Assumes nothing.
use Prim.Native.Nat.{ℕ, suc, ◌-◌, ◌<◌, ◌≤◌}
use mathlib.Core.Path.{◌≡◌, refl, ap, ◌∙◌}
use mathlib.Core.Bool.{Bool, true, false, cond, ◌&&◌}
use mathlib.Core.List.{List, [], ◌∷◌}
use lib.ListN.{length, take, drop}
use lib.Dec.{eqb, ltb}
use native.Mathlib.Omega.{arith}
use borrow.Author.Tests.{le-leb, lt-leb, ltb-true, ltb-false}
use Rattle.std.proofs.Common.{Ok, Err}
use Rattle.std.proofs.lemmas.Bool.Decides.{nat_tests}
use Rattle.std.specs.List.{list_all, ends_with}
use Rattle.anomaly.specs.declared.Refusal.{Refusal}
use Rattle.text.specs.Lines.{Lines, none, cut, line, before, lines_of, whole, lines_in, up_to, payload_of}
use Rattle.text.specs.Text.{is_header, is_other, rest_ok, lines_ok, text_ok, head_in, head_of, read_of}
use Rattle.text.proofs.Splitting.{first_line, no_line}

-- ---- the last line feed

-- every byte is on a line that a line feed ends
unfoldable closed : Lines → Bool
closed none = true
closed cut = false
closed (line l more) = closed more

unfoldable begun : Lines → Bool
begun none = false
begun cut = true
begun (line l more) = true

closed-before : (c : ℕ) (t : Lines) → begun t ≡ true → closed (before c t) ≡ closed t
unfolding begun closed before
closed-before c none h = cc
closed-before c cut h = refl
closed-before c (line l more) h = refl

begun-before : (c : ℕ) (t : Lines) → begun (before c t) ≡ true
unfolding begun before
begun-before c none = refl
begun-before c cut = refl
begun-before c (line l more) = refl

begun-lines : (c : ℕ) (s : List ℕ) → begun (lines_of (c ∷ s)) ≡ true
unfolding begun lines_of
begun-lines c s = either (eqb c 10)
  where
    either : (b : Bool) → begun (cond b (line [] (lines_of s)) (before c (lines_of s))) ≡ true
    either true = refl
    either false = begun-before c (lines_of s)

eqb-swap : (a b : ℕ) → eqb a b ≡ eqb b a
eqb-swap a b = grind (arith, nat_tests)

-- a byte before lines
closed-more : (c : ℕ) (s : List ℕ) → begun (lines_of s) ≡ true → closed (lines_of (c ∷ s)) ≡ closed (lines_of s)
unfolding closed lines_of
closed-more c s h = either (eqb c 10)
  where
    either : (b : Bool) → closed (cond b (line [] (lines_of s)) (before c (lines_of s))) ≡ closed (lines_of s)
    either true = refl
    either false = closed-before c (lines_of s) h

closed-one : (c : ℕ) → closed (lines_of (c ∷ [])) ≡ ends_with eqb (c ∷ []) (10 ∷ [])
unfolding closed lines_of before
closed-one c = either (eqb c 10) (eqb 10 c) (eqb-swap c 10)
  where
    either : (b d : Bool) → b ≡ d → closed (cond b (line [] none) (before c none)) ≡ (d && true)
    either true d e = rw (← e)
    either false d e = rw (← e)

closed-lines : (c : ℕ) (s : List ℕ) → closed (lines_of (c ∷ s)) ≡ ends_with eqb (c ∷ s) (10 ∷ [])
closed-lines c [] = closed-one c
closed-lines c (d ∷ s) =
    let back : suc (suc (length s)) - 1 ≡ suc (suc (length s) - 1) = omega arith in
    rw back (closed-more c (d ∷ s) (begun-lines d s) ∙ closed-lines d s)

-- ---- the lines

unfoldable pub headed : List (List ℕ) → Bool
headed [] = false
headed (l ∷ more) = is_header l && list_all is_other more

and_swap : (a b d : Bool) → (a && (b && d)) ≡ (b && (a && d))
and_swap true b d = refl
and_swap false true d = refl
and_swap false false d = refl

rest_by : (t : Lines) → rest_ok t ≡ (closed t && list_all is_other (whole t))
unfolding rest_ok closed whole
rest_by none = refl
rest_by cut = refl
rest_by (line l more) = rw (rest_by more) (and_swap (is_other l) (closed more) (list_all is_other (whole more)))

lines_by : (t : Lines) → lines_ok t ≡ (closed t && headed (whole t))
unfolding lines_ok closed headed whole
lines_by none = refl
lines_by cut = refl
lines_by (line l more) = rw (rest_by more) (and_swap (is_header l) (closed more) (list_all is_other (whole more)))

and_false : (a : Bool) → (a && false) ≡ false
and_false true = refl
and_false false = refl

-- ---- the text

module _ (s : List ℕ) where
  not_image : text_ok s ≡ false → Err Refusal.Text ≡ read_of s
  unfolding read_of
  not_image h = rw h

  pub too_long : 65536 < length s → Err Refusal.Text ≡ read_of s
  unfolding text_ok
  too_long h = not_image (rw (lt-leb (length s) 65536 h))

  lines_bad : lines_ok (lines_of s) ≡ false → Err Refusal.Text ≡ read_of s
  unfolding text_ok
  lines_bad h = not_image (rw (h, and_false))

  pub headed_bad : headed (lines_in s) ≡ false → Err Refusal.Text ≡ read_of s
  headed_bad h = lines_bad (lines_by (lines_of s) ∙ rw (h, and_false))

  pub no_lines : lines_in s ≡ [] → Err Refusal.Text ≡ read_of s
  unfolding headed
  no_lines e = headed_bad (rw e)

  module _ {l : List ℕ} {more : List (List ℕ)} (step : lines_in s ≡ l ∷ more) where
    pub header_bad : is_header l ≡ false → Err Refusal.Text ≡ read_of s
    unfolding headed
    header_bad h = headed_bad (rw (step, h))

    pub rest_bad : list_all is_other more ≡ false → Err Refusal.Text ≡ read_of s
    unfolding headed
    rest_bad h = headed_bad (rw (step, h, and_false))

pub not_closed : (s : List ℕ) → ends_with eqb s (10 ∷ []) ≡ false → Err Refusal.Text ≡ read_of s
unfolding headed lines_of whole
not_closed [] h = headed_bad [] refl
not_closed (c ∷ s) h = lines_bad (c ∷ s) (lines_by (lines_of (c ∷ s)) ∙ rw (closed-lines c s, h))

first_is : (s l : List ℕ) (more : List (List ℕ)) → lines_in s ≡ l ∷ more → l ≡ take (up_to s) s
unfolding whole
first_is s l more step = by (ltb (up_to s) (length s)) refl
  where
    by : (b : Bool) → ltb (up_to s) (length s) ≡ b → l ≡ take (up_to s) s
    by true t =
        let here : lines_in s ≡ take (up_to s) s ∷ lines_in (drop (suc (up_to s)) s) = ap whole (first_line s (ltb-true _ _ t)) in
        cc
    by false t =
        let none_there : lines_in s ≡ [] = no_line s (ltb-false _ _ t) in
        cc

-- an image: its lines and the header in the first of them
pub image_read : (s : List ℕ) → length s ≤ 65536 → ends_with eqb s (10 ∷ []) ≡ true → (l : List ℕ) (more : List (List ℕ)) → lines_in s ≡ l ∷ more
    → is_header l ≡ true → list_all is_other more ≡ true → Ok (head_in (payload_of l)) ≡ read_of s
unfolding read_of text_ok head_of headed
image_read [] short ends l more step header rest = cc
image_read (c ∷ s) short ends l more step header rest =
    let closes : closed (lines_of (c ∷ s)) ≡ true = closed-lines c s ∙ ends in
    let lines : lines_ok (lines_of (c ∷ s)) ≡ true = lines_by (lines_of (c ∷ s)) ∙ rw (closes, step, header, rest) in
    rw (le-leb (length (c ∷ s)) 65536 short, lines, first_is (c ∷ s) l more step)
