-- Sections joined and cut again: each comes back, and one may be replaced by another as long. Assumes nothing.
use mathlib.Core.Path.{◌≡◌, refl, sym, ap, ◌∙◌}
use Prim.Native.Nat.{ℕ, zero, suc, ◌+◌, ◌-◌, ◌≤◌, ◌<◌}
use mathlib.Core.Bool.{true}
use mathlib.Core.List.{List, [], ◌∷◌, ◌++◌, map, append_assoc}
use native.Mathlib.Omega.{arith}
use native.Mathlib.Nat.{add-zero, add_assoc}
use native.Mathlib.Numerals.{add-one}
use lib.ListN.{length, get_or, set, take, drop, length-append, length-drop, length-set, drop_of_length-le}
use lib.Seq.{drop-cons, take-append_seam, take-append-add, take_at, drop_at, length-take-le}
use borrow.Author.Tests.{le-leb, eq-eqb}
use Rattle.memory.specs.Lists.{over, write, Written}
use Rattle.memory.proofs.Writes.{write-behind}
use Rattle.memory.proofs.Over.{tail_returned, length-write, set-write, take-over, over-is, write-is, sets_write}
use Rattle.program.specs.Image.{Image, tables_of, image_of, rising}
use Rattle.program.specs.Words.{between, fits, cut, image_in, Ordered}
use Rattle.program.proofs.Layouts.{image-is, ordered}
use Rattle.image_words.specs.Joined.{ends, flat, sections_of, joined}

-- ---- lists behind a front

between_seam : (front s back : List ℕ) (a : ℕ) → length front ≡ a → between a (a + length s) (front ++ (s ++ back)) ≡ s
between_seam front s back a e =
    let n : (a + length s) - a ≡ length s = omega arith in
    rw (n, drop_at front (s ++ back) a e) (take-append_seam s back)

-- the i-th
unfoldable nth : ℕ → List (List ℕ) → List ℕ
nth i [] = []
nth zero (s ∷ ss) = s
nth (suc i) (s ∷ ss) = nth i ss

list_at : (front : List ℕ) (ss : List (List ℕ)) (i a : ℕ) → length front ≡ a → i < length ss
    → between (get_or (a ∷ ends a ss) i 0) (get_or (ends a ss) i 0) (front ++ flat ss) ≡ nth i ss
unfolding ends flat nth
list_at front [] i a e h = absurd (omega arith)
list_at front (s ∷ ss) zero a e h = between_seam front s (flat ss) a e
list_at front (s ∷ ss) (suc i) a e h =
    rw (append_assoc front s (flat ss)) at (list_at (front ++ s) ss i (a + length s) (rw (length-append front s, e) refl) (omega arith))

ends_rise : (a : ℕ) (ss : List (List ℕ)) → rising a (ends a ss) (a + length (flat ss)) ≡ true
unfolding rising ends flat
ends_rise a [] = eq-eqb a (a + 0) (sym (add-zero a))
ends_rise a (s ∷ ss) =
    rw (le-leb a (a + length s) (omega arith), length-append s (flat ss), ← add_assoc a (length s) (length (flat ss))) (ends_rise (a + length s) ss)

-- ---- an image

nine : (im : Image) → length (ends 9 (sections_of im)) ≡ 9
unfolding ends
nine im = refl

pub joined_long : (im : Image) → length (joined im) ≡ 9 + length (flat (sections_of im))
unfolding joined
joined_long im = length-append (ends 9 (sections_of im)) (flat (sections_of im)) ∙ rw (nine im) refl

pub fits-joined : (im : Image) → fits (joined im) ≡ true
unfolding fits joined
fits-joined im =
    rw (take_at (ends 9 (sections_of im)) (flat (sections_of im)) 9 (nine im), length-append (ends 9 (sections_of im)) (flat (sections_of im)), nine im)
    (ends_rise 9 (sections_of im))

image_by : {c g a b d e f h k c' g' a' b' d' e' f' h' k' : List ℕ} → c ≡ c' → g ≡ g' → a ≡ a' → b ≡ b' → d ≡ d' → e ≡ e' → f ≡ f' → h ≡ h' → k ≡ k'
    → image_of c g (tables_of a b d) (tables_of e f h) k ≡ image_of c' g' (tables_of a' b' d') (tables_of e' f' h') k'
image_by p0 p1 p2 p3 p4 p5 p6 p7 p8 = rw (p0, p1, p2, p3, p4, p5, p6, p7, p8) refl

-- the sections come back
pub cut-joined : (im : Image) → cut (joined im) ≡ im
unfolding joined ends nth
cut-joined im =
    let at : (i : ℕ) → i < 9 → between (get_or (9 ∷ ends 9 (sections_of im)) i 0) (get_or (ends 9 (sections_of im)) i 0) (joined im) ≡ nth i (sections_of im) =
    λ i h. list_at (ends 9 (sections_of im)) (sections_of im) i 9 refl h in
    image_by (at 0 (omega arith)) (at 1 (omega arith)) (at 2 (omega arith)) (at 3 (omega arith)) (at 4 (omega arith)) (at 5 (omega arith))
    (at 6 (omega arith)) (at 7 (omega arith)) (at 8 (omega arith))

pub image-joined : (im : Image) → image_in (joined im) ≡ im
image-joined im = image-is (joined im) (fits-joined im) ∙ cut-joined im

-- ---- other globals, as many

abbrev pub globals_set : List ℕ → Image → Image
globals_set g im = image_of im.code g im.switches im.lookups im.defaults

same_ends : (im : Image) (g : List ℕ) → length g ≡ length im.globals → ends 9 (sections_of im) ≡ ends 9 (sections_of (globals_set g im))
unfolding ends
same_ends im g e = rw e refl

-- as the part that was lent comes back
pub globals_replaced : (im : Image) (g : List ℕ) (a k : ℕ) → length g ≡ length im.globals → a ≡ 9 + length im.code
    → k ≡ length im.globals → take a (joined im) ++ (g ++ drop k (drop a (joined im))) ≡ joined (globals_set g im)
unfolding joined flat
globals_replaced im g a k e first size =
    let front = ends 9 (sections_of im) in
    let rest = flat (im.switches.firsts ∷ im.switches.ends ∷ im.switches.entries ∷ im.lookups.firsts ∷ im.lookups.ends
    ∷ im.lookups.entries ∷ im.defaults ∷ []) in
    let long : length (front ++ im.code) ≡ a = rw (length-append front im.code, nine im) (sym first) in
    rw (
      ← (append_assoc front im.code (im.globals ++ rest)),
      take_at (front ++ im.code) (im.globals ++ rest) a long,
      drop_at (front ++ im.code) (im.globals ++ rest) a long,
      drop_at im.globals rest k (sym size),
      append_assoc front im.code (g ++ rest),
      ← (same_ends im g e),
    ) refl

-- ---- as the sections are put

laid_out : (front xs ws₀ : List ℕ) → length front ≡ 9 → 9 + length xs ≤ length ws₀ → take (9 + length xs) (over front (write 9 xs ws₀)) ≡ front ++ xs
laid_out front xs ws₀ e room =
    let nine-there : length (take 9 ws₀) ≡ 9 = length-take-le 9 ws₀ (omega arith) in
    let is : over front (write 9 xs ws₀) ≡ front ++ over xs (drop 9 ws₀) =
    over-is front (write 9 xs ws₀) (rw (length-write, e) (omega arith))
    ∙ rw (e, write-is 9 xs ws₀, drop_at (take 9 ws₀) (over xs (drop 9 ws₀)) 9 nine-there) refl in
    let back : take (9 + length xs) (front ++ over xs (drop 9 ws₀)) ≡ front ++ take (length xs) (over xs (drop 9 ws₀)) =
    rw e at (take-append-add front (over xs (drop 9 ws₀)) (length xs)) in
    ap (λ (y : List ℕ). take (9 + length xs) y) is ∙ back ∙ rw (take-over xs (drop 9 ws₀) (rw length-drop (omega arith))) refl

pub joined-size : (im : Image) → length (joined im) ≡ 9 + length im.code + length im.globals + length im.switches.firsts
    + length im.switches.ends + length im.switches.entries + length im.lookups.firsts + length im.lookups.ends
    + length im.lookups.entries + length im.defaults
unfolding flat
joined-size im = joined_long im ∙ simp (length-append) (omega arith)

-- a number set in front of what is written
set-below : (i e v : ℕ) (xs ws : List ℕ) → i < e → write e xs (set ws i v) ≡ set (write e xs ws) i v
unfolding write
set-below i zero v xs ws h = absurd (omega arith)
set-below i (suc e) v xs [] h = refl
set-below zero (suc e) v xs (y ∷ ws) h = refl
set-below (suc i) (suc e) v xs (y ∷ ws) h = ap (λ (r : List ℕ). y ∷ r) (set-below i e v xs ws (omega arith))

-- of what is made of the items from the i-th on
module _ {A : Type 0} (f : A → List ℕ) (items : List A) (i : ℕ) where
  pub items_step : (d : A) → i < length items → map f (drop i items) ≡ f (get_or items i d) ∷ map f (drop (i + 1) items)
  items_step d h = rw (add-one, drop-cons items i d h) refl

  pub items_end : length items ≤ i → map f (drop i items) ≡ []
  items_end h = rw (drop_of_length-le items h) refl

-- i sections are put, up to the place end, with their ends in front; these are left
pub record Joining (im : Image) (before : List ℕ) (left : List (List ℕ)) (i end : ℕ) (words : List ℕ) : Type 0 where
  pub as_many : i + length left ≡ 9
  pub behind : 9 ≤ end
  pub count : end + length (flat left) ≡ 9 + length (flat (sections_of im))
  pub long : length words ≡ length before
  pub rest : write i (ends end left) (write end (flat left) words) ≡ write 0 (ends 9 (sections_of im)) (write 9 (flat (sections_of im)) before)

module _ {im : Image} {before : List ℕ} {left : List (List ℕ)} {i end : ℕ} {words : List ℕ} (g : Joining im before left i end words)
    (room : length (joined im) ≤ length before) where
  all-counted : left ≡ [] → end ≡ 9 + length (flat (sections_of im))
  unfolding flat
  all-counted e = omega (arith, g.count, ap (λ (ss : List (List ℕ)). length (flat ss)) e)

  all-put : left ≡ [] → words ≡ over (ends 9 (sections_of im)) (write 9 (flat (sections_of im)) before)
  unfolding ends flat write
  all-put e =
      let rest : write i [] (write end [] words) ≡ write 0 (ends 9 (sections_of im)) (write 9 (flat (sections_of im)) before) = rw e at g.rest in
      sets_write [] words end ∙ sets_write [] (write end [] words) i ∙ rest

  pub joined-all : left ≡ [] → (end ≡ length (joined im)) × (take end words ≡ joined im)
  unfolding joined
  joined-all e = (
    all-counted e ∙ sym (joined_long im),
    rw (all-counted e, all-put e) (laid_out (ends 9 (sections_of im)) (flat (sections_of im)) before (nine im) (omega (arith, room, joined_long im))),
  )

  module _ {s : List ℕ} {more : List (List ℕ)} (step : left ≡ s ∷ more) where
    behind_step : length (flat left) ≡ length s + length (flat more)
    unfolding flat
    behind_step = ap (λ (ss : List (List ℕ)). length (flat ss)) step ∙ length-append s (flat more)

    pub section_within : end + length s ≤ length words
    section_within = omega (arith, g.count, g.long, behind_step, joined_long im)

    pub place_within : i < 9
    place_within = omega (arith, g.as_many, ap (λ (ss : List (List ℕ)). length ss) step)

    pub joining_next : {after : List ℕ} {r : ℕ} → Written words end s after r → Joining im before more (i + 1) r (set after i r)
    unfolding ends flat
    joining_next {after} {r} w =
        let here : i < r = omega (arith, place_within, g.behind, w.ends) in
        let put : write r (flat more) after ≡ write end (s ++ flat more) words = write-behind words after end r s (flat more) w in
        let rest : write i ((end + length s) ∷ ends (end + length s) more) (write end (s ++ flat more) words)
        ≡ write 0 (ends 9 (sections_of im)) (write 9 (flat (sections_of im)) before) = rw step at g.rest in
        record {
          as_many = omega (arith, g.as_many, ap (λ (ss : List (List ℕ)). length ss) step);
          behind = omega (arith, g.behind, w.ends);
          count = omega (arith, g.count, behind_step, w.ends);
          long = length-set after i r ∙ ap (λ (x : List ℕ). length x) w.is ∙ length-write end s words ∙ g.long;
          rest = rw (set-below i r r (flat more) after here, put, add-one, set-write i r (ends r more) (write end (s ++ flat more) words), w.ends) rest;
        }

-- a section as it is put: the tail that was lent comes back
pub section_put : {ws got s : List ℕ} {at n : ℕ} → n ≡ length s → got ≡ over s (take (length ws - at) (drop at ws)) → at ≤ length ws
    → Written ws at s (take at ws ++ (got ++ drop (length ws - at) (drop at ws))) (at + n)
section_put {ws} {got} {s} {at} {n} e p h =
    record {
      ends = rw e refl;
      is = rw p (tail_returned at (length ws) s ws refl h);
    }

-- ---- words that are an image's, and their globals

module _ (im : Image) {ws : List ℕ} (e : ws ≡ joined im) where
  pub words_ordered : Ordered ws
  words_ordered = rw e (ordered (joined im) (fits-joined im))

  pub globals_of : between (get_or ws 0 0) (get_or ws 1 0) ws ≡ im.globals
  globals_of = rw e (ap (λ (x : Image). x.globals) (cut-joined im))

  first_is : get_or ws 0 0 ≡ 9 + length im.code
  unfolding joined ends
  first_is = rw e refl

  second_is : get_or ws 1 0 ≡ 9 + length im.code + length im.globals
  unfolding joined ends
  second_is = rw e refl

  pub image_with_lem : (g : List ℕ) → length g ≡ length (between (get_or ws 0 0) (get_or ws 1 0) ws)
      → image_in (take (get_or ws 0 0) ws ++ (g ++ drop (get_or ws 1 0 - get_or ws 0 0) (drop (get_or ws 0 0) ws))) ≡ globals_set g im
  image_with_lem g n =
      let long : length g ≡ length im.globals = n ∙ ap (λ (x : List ℕ). length x) globals_of in
      let size : get_or ws 1 0 - get_or ws 0 0 ≡ length im.globals = omega (arith, first_is, second_is) in
      let back : take (get_or ws 0 0) (joined im) ++ (g ++ drop (get_or ws 1 0 - get_or ws 0 0) (drop (get_or ws 0 0) (joined im))) ≡ joined (globals_set g im) =
      globals_replaced im g (get_or ws 0 0) (get_or ws 1 0 - get_or ws 0 0) long first_is size in
      ap image_in (ap (λ (x : List ℕ). take (get_or ws 0 0) x ++ (g ++ drop (get_or ws 1 0 - get_or ws 0 0) (drop (get_or ws 0 0) x))) e ∙ back)
      ∙ image-joined (globals_set g im)
