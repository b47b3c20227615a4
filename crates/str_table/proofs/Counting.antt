-- Passing over the slots for the test of 9: how many are filled, and where their headers lie. Assumes nothing.
use mathlib.Core.Path.{◌≡◌, refl, sym, ◌∙◌}
use Prim.Native.Nat.{ℕ, ◌+◌, ◌*◌, ◌^◌, ◌≤◌, ◌<◌}
use mathlib.Core.Bool.{Bool, true, false, cond, not, ◌&&◌, ◌||◌}
use mathlib.Core.List.{List, [], ◌∷◌}
use native.Mathlib.Omega.{arith}
use native.Mathlib.Numerals.{add-one}
use lib.ListN.{length, get_or, drop, drop_of_length-le}
use lib.Seq.{drop-cons}
use lib.Dec.{leb, eqb, lit≤}
use mir.Val.{bool_byte}
use borrow.Author.Tests.{eq-eqb, ne_eqb, eqb-true, eqb-false, leb-true}
use Rattle.std.specs.List.{list_any}
use Rattle.std.proofs.Math.Bool.{and_assoc, and-true, or-false}
use Rattle.memory.proofs.Tests.{both}
use Rattle.string.specs.Payload.{reaches}
use Rattle.str_table.specs.Sound.{slot_count, active_ok, filled_in, headers_in, count_ok, slots_ok}

-- of the first i slots so many are filled, and `heads` says whether each of those has its header in pushed pages
pub record Counting (base n : ℕ) (slots : List ℕ) (filled : ℕ) (heads : Bool) (i : ℕ) : Type 0 where
  pub few : filled ≤ i
  pub counts : filled + filled_in (drop i slots) ≡ filled_in slots
  pub in_pages : (heads && headers_in base n (drop i slots)) ≡ headers_in base n slots

-- as the definition counts a slot
one_if : (b : Bool) → bool_byte (not b) ≡ cond b 0 1
one_if true = refl
one_if false = refl

-- at most one slot more
pub one_most : (b : Bool) → bool_byte b ≤ 1
one_most true = omega arith
one_most false = omega arith

module _ (base n : ℕ) (slots : List ℕ) where
  pub counting_start : Counting base n slots 0 true 0
  counting_start = record { few = omega arith; counts = omega arith; in_pages = refl }

  module _ (filled : ℕ) (heads : Bool) (i : ℕ) (g : Counting base n slots filled heads i) where
    pub counting_next : (m : ℕ) (h : Bool) → i < length slots → m ≡ bool_byte (not (eqb (get_or slots i 0) 0))
        → h ≡ (heads && (eqb (get_or slots i 0) 0 || reaches base n (get_or slots i 0) 8)) → Counting base n slots (filled + m) h (i + 1)
    unfolding filled_in headers_in
    counting_next m h l e p =
        let few = g.few in
        let counts = rw (drop-cons slots i 0 l, sym (one_if (eqb (get_or slots i 0) 0)), sym e) at g.counts in
        let in_pages = rw (drop-cons slots i 0 l) at g.in_pages in
        let one : m ≤ 1 = rw e (one_most (not (eqb (get_or slots i 0) 0))) in
        record {
          few = omega arith;
          counts = rw add-one (omega (arith, counts));
          in_pages = rw (p, add-one) (and_assoc heads _ _ ∙ in_pages);
        }

    -- at the end
    all_heads : length slots ≤ i → headers_in base n slots ≡ heads
    unfolding headers_in
    all_heads h = rw (drop_of_length-le slots h, and-true heads) at (sym g.in_pages)

    all_filled : length slots ≤ i → filled_in slots ≡ filled
    unfolding filled_in
    all_filled h = let u = rw (drop_of_length-le slots h) at g.counts in omega (arith, u)

    module _ (len : ℕ) (h : length slots ≤ i) where
      pub bad_headers : heads ≡ false → false ≡ slots_ok base n len slots
      unfolding slots_ok
      bad_headers e = rw (all_heads h, e) refl

      pub bad_count : heads ≡ true → (filled ≡ len → ⊥) → false ≡ slots_ok base n len slots
      unfolding slots_ok count_ok
      bad_count t e = rw (all_heads h, t, all_filled h, ne_eqb filled len e) refl

      pub half_full : heads ≡ true → filled ≡ len → leb (len * 2) (length slots) ≡ slots_ok base n len slots
      unfolding slots_ok count_ok
      half_full t e = rw (all_heads h, t, all_filled h, eq-eqb filled len e) refl

-- ---- what a sound table is

eqb_flip : (a b : ℕ) → eqb a b ≡ eqb b a
eqb_flip a b = go (eqb a b) refl
  where
    go : (t : Bool) → eqb a b ≡ t → t ≡ eqb b a
    go true e = sym (eq-eqb b a (sym (eqb-true a b e)))
    go false e = sym (ne_eqb b a (λ q. eqb-false a b e (sym q)))

-- as a list of them contains it
pub list_any-slot_count : (n : ℕ) → list_any (λ m. eqb m n) (64 ∷ 128 ∷ 256 ∷ 512 ∷ 1024 ∷ 2048 ∷ 4096 ∷ []) ≡ slot_count n
unfolding slot_count
list_any-slot_count n = rw (
  eqb_flip 64 n,
  eqb_flip 128 n,
  eqb_flip 256 n,
  eqb_flip 512 n,
  eqb_flip 1024 n,
  eqb_flip 2048 n,
  eqb_flip 4096 n,
  or-false (eqb n 4096),
) refl

-- what holds of each number of slots that can be lent
pub slot_cases : (P : ℕ → Type 0) → P 64 → P 128 → P 256 → P 512 → P 1024 → P 2048 → P 4096 → (n : ℕ) → slot_count n ≡ true → P n
unfolding slot_count
slot_cases P a b c d e f g n h =
    at 64 a _ (at 128 b _ (at 256 c _ (at 512 d _ (at 1024 e _ (at 2048 f _ (λ q. rw (eqb-true n 4096 q) g)))))) h
  where
    at : (m : ℕ) → P m → (rest : Bool) → (rest ≡ true → P n) → (eqb n m || rest) ≡ true → P n
    at m here rest there q = go (eqb n m) refl q
      where
        go : (t : Bool) → eqb n m ≡ t → (t || rest) ≡ true → P n
        go true r u = rw (eqb-true n m r) here
        go false r u = there u

-- it is a power of two
pub record Power (n : ℕ) : Type 0 where
  pub exponent : ℕ
  pub is : n ≡ 2 ^ exponent

abbrev power : (k : ℕ) → Power (2 ^ k)
power k = record { exponent = k; is = refl }

pub slot_power : (n : ℕ) → slot_count n ≡ true → Power n
slot_power = slot_cases Power (power 6) (power 7) (power 8) (power 9) (power 10) (power 11) (power 12)

-- and at most 4,096
pub most-slots : (n : ℕ) → slot_count n ≡ true → n ≤ 4096
most-slots = slot_cases (λ n. n ≤ 4096) (lit≤ tt) (lit≤ tt) (lit≤ tt) (lit≤ tt) (lit≤ tt) (lit≤ tt) (lit≤ tt)

pub active-within : (active lent : ℕ) → active_ok active lent ≡ true → active ≤ lent
unfolding active_ok
active-within active lent e = leb-true active lent (both (leb active lent) _ e).0
