-- Lists written over lists: lengths, two writes in a row, and the forms in which a lent part is given back. Assumes nothing.
use mathlib.Core.Path.{◌≡◌, refl, sym, ap, ◌∙◌}
use Prim.Native.Nat.{ℕ, zero, suc, ◌+◌, ◌-◌, ◌≤◌, ◌<◌}
use mathlib.Core.List.{List, [], ◌∷◌, ◌++◌, append-nil}
use native.Mathlib.Omega.{arith}
use native.Mathlib.Numerals.{add-one}
use native.Mathlib.Nat.{not-suc-le-zero, le_of_suc-le-suc, zero-add, suc-add}
use lib.ListN.{length, get_or, take, drop, set, length-drop, drop_of_length-le}
use lib.Seq.{take_all, sets, length-take-le, take-suc}
use borrow.Rule.Slice.PartMut.{put_mid}
use Rattle.memory.specs.Lists.{over, write}

pub length_over : {A : Type 0} (new old : List A) → length (over new old) ≡ length old
unfolding over
length_over [] old = refl
length_over (x ∷ new) [] = refl
length_over (x ∷ new) (y ∷ old) = ap suc (length_over new old)

pub length-write : (a : ℕ) (new old : List ℕ) → length (write a new old) ≡ length old
unfolding write
length-write zero new old = length_over new old
length-write (suc a) new [] = refl
length-write (suc a) new (y ∷ old) = ap suc (length-write a new old)

-- what was there written over itself
pub over-take : {A : Type 0} (d : ℕ) (xs : List A) → over (take d xs) xs ≡ xs
unfolding over
over-take zero xs = refl
over-take (suc d) [] = refl
over-take (suc d) (x ∷ xs) = ap (λ r. x ∷ r) (over-take d xs)

pub take-over : {A : Type 0} (new old : List A) → length new ≤ length old → take (length new) (over new old) ≡ new
unfolding over
take-over [] old h = refl
take-over (x ∷ new) [] h = absurd (not-suc-le-zero h)
take-over (x ∷ new) (y ∷ old) h = ap (λ r. x ∷ r) (take-over new old (le_of_suc-le-suc h))

-- the form in which a lent front is given back
pub over-is : {A : Type 0} (new old : List A) → length new ≤ length old → over new old ≡ new ++ drop (length new) old
unfolding over
over-is [] old h = refl
over-is (x ∷ new) [] h = absurd (not-suc-le-zero h)
over-is (x ∷ new) (y ∷ old) h = ap (λ r. x ∷ r) (over-is new old (le_of_suc-le-suc h))

pub over-over : {A : Type 0} (new mid old : List A) → length mid ≤ length new → over new (over mid old) ≡ over new old
unfolding over
over-over new [] old h = refl
over-over [] (m ∷ mid) old h = absurd (not-suc-le-zero h)
over-over (x ∷ new) (m ∷ mid) [] h = refl
over-over (x ∷ new) (m ∷ mid) (y ∷ old) h = ap (λ r. x ∷ r) (over-over new mid old (le_of_suc-le-suc h))

-- one more element laid over
pub over-more : {A : Type 0} (xs : List A) (v : A) (h : List A) → length xs < length h → set (over xs h) (length xs) v ≡ over (xs ++ (v ∷ [])) h
unfolding over
over-more xs v [] k = absurd (not-suc-le-zero k)
over-more [] v (y ∷ h) k = refl
over-more (x ∷ xs) v (y ∷ h) k = ap (λ r. x ∷ r) (over-more xs v h (le_of_suc-le-suc k))

-- one more of them, read from where they stand
pub over-read : {A : Type 0} (from to : List A) (i : ℕ) (x : A) → i < length from → length from ≤ length to → x ≡ get_or from i x
    → set (over (take i from) to) i x ≡ over (take (i + 1) from) to
over-read from to i x h k e =
    let l : length (take i from) ≡ i = length-take-le i from (omega arith) in
    let more : take i from ++ (x ∷ []) ≡ take (suc i) from = ap (λ y. take i from ++ (y ∷ [])) e ∙ sym (take-suc from i x h) in
    let p : set (over (take i from) to) (length (take i from)) x ≡ over (take i from ++ (x ∷ [])) to = over-more (take i from) x to (rw l (omega arith)) in
    rw (add-one, ← more) (rw l at p)

-- the form in which a lent tail is given back
pub write-is : (a : ℕ) (bs xs : List ℕ) → write a bs xs ≡ take a xs ++ over bs (drop a xs)
unfolding write over
write-is zero bs xs = refl
write-is (suc a) [] [] = refl
write-is (suc a) (b ∷ bs) [] = refl
write-is (suc a) bs (x ∷ xs) = ap (λ (r : List ℕ). x ∷ r) (write-is a bs xs)

pub set-write : (a : ℕ) (b : ℕ) (bs xs : List ℕ) → write (suc a) bs (set xs a b) ≡ write a (b ∷ bs) xs
unfolding write over
set-write zero b bs [] = refl
set-write (suc a) b bs [] = refl
set-write zero b bs (x ∷ xs) = refl
set-write (suc a) b bs (x ∷ xs) = ap (λ (r : List ℕ). x ∷ r) (set-write a b bs xs)

-- a run of stores
pub sets_write : (bs xs : List ℕ) (a : ℕ) → sets xs a bs ≡ write a bs xs
unfolding write over
sets_write [] xs zero = refl
sets_write [] [] (suc a) = refl
sets_write [] (x ∷ xs) (suc a) = ap (λ (r : List ℕ). x ∷ r) (sets_write [] xs a)
sets_write (b ∷ bs) xs a = sets_write bs (set xs a b) (suc a) ∙ set-write a b bs xs

-- writing into what is laid over is laying over, then writing
over_twice : (bs ys xs : List ℕ) → length bs ≤ length ys → over (over bs ys) xs ≡ over bs (over ys xs)
unfolding over
over_twice [] ys xs h = refl
over_twice (b ∷ bs) [] xs h = absurd (not-suc-le-zero h)
over_twice (b ∷ bs) (y ∷ ys) [] h = refl
over_twice (b ∷ bs) (y ∷ ys) (x ∷ xs) h = ap (λ (r : List ℕ). b ∷ r) (over_twice bs ys xs (le_of_suc-le-suc h))

pub over-write : (a : ℕ) (bs ys xs : List ℕ) → a + length bs ≤ length ys → over (write a bs ys) xs ≡ write a bs (over ys xs)
unfolding over write
over-write zero bs ys xs h = over_twice bs ys xs (omega arith)
over-write (suc a) bs [] xs h = absurd (omega arith)
over-write (suc a) bs (y ∷ ys) [] h = refl
over-write (suc a) bs (y ∷ ys) (x ∷ xs) h = ap (λ (r : List ℕ). y ∷ r) (over-write a bs ys xs (omega arith))

over-append : (bs cs xs : List ℕ) → write (length bs) cs (over bs xs) ≡ over (bs ++ cs) xs
unfolding over write
over-append [] cs xs = refl
over-append (b ∷ bs) cs [] = refl
over-append (b ∷ bs) cs (x ∷ xs) = ap (λ (r : List ℕ). b ∷ r) (over-append bs cs xs)

-- two writes, one behind the other
pub write-append : (a : ℕ) (bs cs xs : List ℕ) → write (a + length bs) cs (write a bs xs) ≡ write a (bs ++ cs) xs
unfolding write
write-append zero bs cs xs = ap (λ (n : ℕ). write n cs (over bs xs)) (zero-add (length bs)) ∙ over-append bs cs xs
write-append (suc a) bs cs [] = ap (λ (n : ℕ). write n cs []) (suc-add a (length bs))
write-append (suc a) bs cs (x ∷ xs) = ap (λ (n : ℕ). write n cs (x ∷ write a bs xs)) (suc-add a (length bs))
    ∙ ap (λ (r : List ℕ). x ∷ r) (write-append a bs cs xs)

-- ---- the forms in which lent parts are given back

-- a tail, &mut xs[a..]
pub tail_returned : (a n : ℕ) (bs xs : List ℕ) → n ≡ length xs → a ≤ n
    → take a xs ++ (over bs (take (n - a) (drop a xs)) ++ drop (n - a) (drop a xs)) ≡ write a bs xs
tail_returned a n bs xs e h =
    let l : length (drop a xs) ≤ n - a = rw (length-drop, e) (omega arith) in
    rw (take_all (n - a) (drop a xs) l, drop_of_length-le (drop a xs) l, append-nil) (sym (write-is a bs xs))

-- a part in the middle, &mut xs[a..a + n]
pub middle_returned : (a n : ℕ) (bs xs : List ℕ) → length bs ≡ n → a + n ≤ length xs → put_mid a (a + n - a) xs bs ≡ write a bs xs
middle_returned a n bs xs e h =
    let k : a + n - a ≡ n = omega arith in
    let l : length bs ≤ length (drop a xs) = rw (length-drop, e) (omega arith) in
    rw (k, ← e) (ap (λ (r : List ℕ). take a xs ++ r) (sym (over-is bs (drop a xs) l)) ∙ sym (write-is a bs xs))

-- a front, &mut xs[..n], where the whole was laid over before
pub front_returned : (new mid old : List ℕ) (n : ℕ) → length new ≡ n → length mid ≡ n → n ≤ length old → new ++ drop n (over mid old) ≡ over new old
front_returned new mid old n p q h =
    ap (λ (k : ℕ). new ++ drop k (over mid old)) (sym p) ∙ sym (over-is new (over mid old) (rw (length_over, p) h))
    ∙ over-over new mid old (omega arith)
