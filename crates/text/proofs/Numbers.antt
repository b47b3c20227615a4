-- Digits and the numbers that they say. Assumes nothing.
use Prim.Native.Nat.{ℕ, zero, suc, ◌+◌, ◌*◌, ◌%◌, ◌^◌, ◌<◌, ◌≤◌}
use mathlib.Core.Path.{◌≡◌, refl, sym, ap, ◌∙◌}
use mathlib.Core.Bool.{Bool, ◌&&◌}
use mathlib.Core.List.{List, [], ◌∷◌, ◌++◌}
use lib.ListN.{length, get_or, take, drop}
use lib.Dec.{ltb}
use lib.Pow.{pow_mono, pow-add}
use lib.Arith.{digits_lt}
use native.Mathlib.Nat.{lt_of_lt_of_le, mod-lt}
use native.Mathlib.Omega.{arith}
use borrow.Author.Tests.{lt-ltb, le-ltb}
use Rattle.std.specs.List.{list_all}
use Rattle.std.specs.Option.{SomeIff, is_some, unwrap_or}
use Rattle.std.specs.Iterator.Adapters.{skip_source, skip_count, skip_steps, take_source, take_count, take_steps}
use Rattle.std.specs.Slice.Iter.{iter_rest}
use Rattle.std.proofs.Common.{Option, None, Some, Iter}
use Rattle.std.specs.declared.iter.Skip.{Skip}
use Rattle.std.specs.declared.iter.Take.{Take}
use Rattle.std.proofs.iter.Yields.{fronts}
use Rattle.std.proofs.lemmas.Bool.Decides.{nat_tests}
use Rattle.std.proofs.lemmas.Iterator.{YieldsList, YieldsList-from_slice, YieldsList-from_take}
use Rattle.std.proofs.lemmas.Iterator.Adapters.{YieldsList-from_skip}
use Rattle.std.proofs.lemmas.Iterator.Consumers.{YieldsList-at}
use Rattle.std.proofs.lemmas.List.{take_more}
use Rattle.memory.specs.Lists.{part}
use Rattle.text.specs.Digits.{value_of_digit, all_digits, read_on, field}
use Rattle.text.specs.Lines.{payload_of, up_to}
use Rattle.text.specs.Text.{head_in, head_of}

abbrev pub is_digit : ℕ → Bool
is_digit c = ltb (value_of_digit c) 16

module _ (c : ℕ) where
  pub digit_there : (r : Option ℕ) → SomeIff r (value_of_digit c < 16) (value_of_digit c) → is_some r ≡ is_digit c
  digit_there None h = sym (le-ltb (value_of_digit c) 16 (omega arith))
  digit_there (Some x) h = sym (lt-ltb (value_of_digit c) 16 h.0)

  pub digit_read : (r : Option ℕ) → SomeIff r (value_of_digit c < 16) (value_of_digit c) → value_of_digit c ≤ 16 → unwrap_or r 0 ≡ value_of_digit c % 16
  digit_read None h k = let e : value_of_digit c ≡ 16 = omega arith in rw e
  digit_read (Some x) h k = let d : value_of_digit c < 16 = h.0 in h.1 ∙ omega arith

pub all_digits-is : (s : List ℕ) → list_all is_digit s ≡ all_digits s
unfolding all_digits
all_digits-is [] = refl
all_digits-is (c ∷ s) = ap (λ (b : Bool). is_digit c && b) (all_digits-is s)

-- ---- n digits say a number below 2^(4n)

read_small : (p : List ℕ) (w j : ℕ) → w < 2 ^ j → read_on w p < 2 ^ (j + 4 * length p)
unfolding read_on
read_small [] w j h = let k : j + 4 * 0 ≡ j = omega arith in rw k h
read_small (c ∷ p) w j h =
    let k : j + 4 + 4 * length p ≡ j + 4 * suc (length p) = omega arith in
    rw (← k) (read_small p (w * 16 + value_of_digit c % 16) (j + 4) (rw (pow-add 2 j 4) (digits_lt h (mod-lt (value_of_digit c) (omega arith)))))

take-few : (n : ℕ) (l : List ℕ) → length (take n l) ≤ n
take-few zero l = omega arith
take-few (suc n) [] = omega arith
take-few (suc n) (x ∷ l) = let h = take-few n l in omega arith

pub read_few : (n : ℕ) (p : List ℕ) → read_on 0 (take n p) < 2 ^ (4 * n)
read_few n p =
    let few = take-few n p in
    lt_of_lt_of_le (read_small (take n p) 0 0 (omega arith)) (pow_mono {i = 0 + 4 * length (take n p)} {j = 4 * n} (omega arith))

pub field_small : (i n : ℕ) (p : List ℕ) → field i n p < 2 ^ (4 * n)
field_small i n p = read_few n (drop i p)

pub budget_small : (s : List ℕ) → (head_of s).budget < 2 ^ 32
unfolding head_of head_in
budget_small s = field_small 28 8 (payload_of (take (up_to s) s))

-- ---- one digit more

pub read_on-more : (w : ℕ) (xs : List ℕ) (c : ℕ) → read_on w (xs ++ c ∷ []) ≡ read_on w xs * 16 + value_of_digit c % 16
unfolding read_on
read_on-more w [] c = refl
read_on-more w (x ∷ xs) c = read_on-more (w * 16 + value_of_digit x % 16) xs c

read_more : (p : List ℕ) (n c : ℕ) → (n < length p) × (c ≡ get_or p n c) → read_on 0 (take (n + 1) p) ≡ read_on 0 (take n p) * 16 + value_of_digit c % 16
read_more p n c t =
    ap (λ (x : List ℕ). read_on 0 x) (take_more p n c t.0 ∙ ap (λ (d : ℕ). take n p ++ d ∷ []) (sym t.1)) ∙ read_on-more 0 (take n p) c

value_small : (c : ℕ) → value_of_digit c ≤ 16
unfolding value_of_digit
value_small c = grind (arith, nat_tests)

-- the digits that are read: w is what the first n of them say, and c is the next
module _ (from width : ℕ) (p : List ℕ) (few : width ≤ 16) (n w : ℕ) (so_far : w ≡ read_on 0 (take n (part from width p))) (c : ℕ)
    (turn : (n < length (part from width p)) × (c ≡ get_or (part from width p) n c)) where
  pub number_small : w < 2 ^ 60
  number_small =
      rw so_far (lt_of_lt_of_le (read_few n (part from width p)) (pow_mono {i = 4 * n} {j = 60} (omega (arith, turn.0, take-few width (drop from p)))))

  pub number_more : (r : Option ℕ) → SomeIff r (value_of_digit c < 16) (value_of_digit c) → w * 16 + unwrap_or r 0 ≡ read_on 0 (take (n + 1) (part from width p))
  number_more r d = rw (so_far, digit_read c r d (value_small c)) (sym (read_more (part from width p) n c turn))

  pub digit_small : (r : Option ℕ) → SomeIff r (value_of_digit c < 16) (value_of_digit c) → unwrap_or r 0 < 16
  digit_small r d = rw (digit_read c r d (value_small c)) (omega arith)

-- as `skip` and `take` give them
pub YieldsList-part : {a : Iter ℕ} {b : Skip (Iter ℕ)} {t : Take (Skip (Iter ℕ))} (from width : ℕ) (p : List ℕ)
    → iter_rest a ≡ p → skip_source b ≡ a → skip_count b ≡ from → take_source t ≡ b → take_count t ≡ width
    → YieldsList (take_steps (skip_steps fronts)) (λ y. y.now) t (part from width p)
YieldsList-part from width p rest b-source b-count t-source t-count =
    YieldsList-from_take width
    (YieldsList-at t-source (YieldsList-from_skip from (YieldsList-at b-source (YieldsList-from_slice p rest)) b-count)) t-count
