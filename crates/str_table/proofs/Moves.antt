-- Placing the old slots again, and room for one name more. Assumes nothing.
use mathlib.Core.Path.{◌≡◌, refl, sym, ap, ◌∙◌}
use Prim.Native.Nat.{ℕ, ◌+◌, ◌*◌, ◌≤◌, ◌<◌}
use mathlib.Core.Bool.{Bool, true, false, cond}
use mathlib.Core.List.{List, [], ◌∷◌, ◌++◌}
use native.Mathlib.Omega.{arith}
use native.Mathlib.Numerals.{add-one}
use lib.ListN.{length, get_or, take, drop, replicate, length-replicate, drop_of_length-le}
use lib.Seq.{drop-cons, length-take-le, take_at, drop_at}
use lib.Dec.{leb, ltb, eqb}
use borrow.Author.Tests.{eq-eqb, ne_eqb, eqb-true, eqb-false, le-leb, lt-leb, leb-true, ltb-false, lt-ltb, le-ltb}
use Rattle.memory.specs.Lists.{over}
use Rattle.memory.proofs.Over.{over-is, over-take, take-over, length_over, front_returned}
use Rattle.str_table.specs.declared.StrTable.{StrTable}
use Rattle.string.specs.Payload.{reaches, hash_at}
use Rattle.str_table.specs.Table.{placed}
use Rattle.str_table.specs.Grow.{stored_hash, moved_one, moved, room_of, widened, with_room, spare_after, inserted, insert_of}
use Rattle.str_table.proofs.Probes.{length-placed}

-- the hash in a header, by what `header_in` answered
module _ (base : ℕ) (heap : List ℕ) (v : ℕ) (found : Bool) (e : found ≡ reaches base (length heap) v 8) where
  pub hash_read : found ≡ true → hash_at base heap v ≡ stored_hash base heap v
  unfolding stored_hash
  hash_read t = rw (sym e ∙ t) refl

  pub hash_absent : found ≡ false → 0 ≡ stored_hash base heap v
  unfolding stored_hash
  hash_absent t = rw (sym e ∙ t) refl

length-moved_one : (z : Bool) (base : ℕ) (heap : List ℕ) (v : ℕ) (t : List ℕ) → length (moved_one z base heap v t) ≡ length t
unfolding moved_one
length-moved_one true base heap v t = refl
length-moved_one false base heap v t = length-placed (stored_hash base heap v) v t

pub length_moved : (base : ℕ) (heap old t : List ℕ) → length (moved base heap old t) ≡ length t
unfolding moved
length_moved base heap [] t = refl
length_moved base heap (v ∷ old) t = simp (length-moved_one, length_moved base heap old)

-- the first i of the old slots are placed again, and t is what that left
pub record Moving (base : ℕ) (heap old to : List ℕ) (i : ℕ) (t : List ℕ) : Type 0 where
  pub within : i ≤ length old
  pub is : moved base heap (drop i old) t ≡ moved base heap old to
  pub long : length t ≡ length to

module _ (base : ℕ) (heap old to : List ℕ) where
  pub moving_start : Moving base heap old to 0 to
  moving_start = record { within = omega arith; is = refl; long = refl }

  module _ (i : ℕ) (t : List ℕ) (g : Moving base heap old to i t) where
    turn : i < length old → moved base heap (drop i old) t
        ≡ moved base heap (drop (i + 1) old) (moved_one (eqb (get_or old i 0) 0) base heap (get_or old i 0) t)
    unfolding moved
    turn h = rw (add-one, drop-cons old i 0) refl

    pub moving_skip : (u : List ℕ) → i < length old → get_or old i 0 ≡ 0 → u ≡ t → Moving base heap old to (i + 1) u
    unfolding moved_one
    moving_skip u h z e =
        let f : moved base heap (drop i old) t ≡ moved base heap (drop (i + 1) old) t = turn h ∙ rw (eq-eqb (get_or old i 0) 0 z) refl in
        record { within = omega arith; is = ap (moved base heap (drop (i + 1) old)) e ∙ sym f ∙ g.is; long = ap length e ∙ g.long }

    pub moving_place : (u : List ℕ) (hash : ℕ) → i < length old → (get_or old i 0 ≡ 0 → ⊥) → hash ≡ stored_hash base heap (get_or old i 0)
        → u ≡ placed hash (get_or old i 0) t → Moving base heap old to (i + 1) u
    unfolding moved_one
    moving_place u hash h z q e =
        let v = get_or old i 0 in
        let k : u ≡ placed (stored_hash base heap v) v t = e ∙ ap (λ (r : ℕ). placed r v t) q in
        let f : moved base heap (drop i old) t ≡ moved base heap (drop (i + 1) old) (placed (stored_hash base heap v) v t) = turn h
        ∙ rw (ne_eqb v 0 z) refl in
        record {
          within = omega arith;
          is = ap (moved base heap (drop (i + 1) old)) k ∙ sym f ∙ g.is;
          long = ap length k ∙ length-placed (stored_hash base heap v) v t ∙ g.long;
        }

    pub moving_end : length old ≤ i → t ≡ moved base heap old to
    unfolding moved
    moving_end h = let e : moved base heap (drop i old) t ≡ t = rw (drop_of_length-le old h) refl in sym e ∙ g.is

-- ---- what copying, clearing and placing again leave, as the lent parts are given back
module _ (base : ℕ) (heap slots spare : List ℕ) (active room : ℕ) (h : active ≤ room) (k : room ≤ length slots) (p : active ≤ length spare)
    (x y : List ℕ) (ex : x ≡ over (take active slots) spare) (ey : y ≡ replicate (length (take room slots)) 0) where
  cleared : y ≡ replicate room 0
  cleared = ey ∙ ap (λ (n : ℕ). replicate n 0) (length-take-le room slots k)

  cleared_length : length y ≡ room
  cleared_length = ap length cleared ∙ length-replicate room 0

  pub front_there : room ≡ length (take room (y ++ drop room slots))
  front_there = sym (ap length (take_at y (drop room slots) room cleared_length) ∙ cleared_length)

  pub spare-there : active ≡ length (take active x)
  spare-there = sym (length-take-le active x (rw (ex, length_over) p))

  kept : take active x ≡ take active slots
  kept =
      let l : length (take active slots) ≡ active = length-take-le active slots (omega arith) in
      ap (take active) ex ∙ ap (λ (n : ℕ). take n (over (take active slots) spare)) (sym l) ∙ take-over (take active slots) spare (rw l p)

  pub rehashed : (z : List ℕ) → z ≡ moved base heap (take active x) (take room (y ++ drop room slots))
      → z ++ drop room (y ++ drop room slots) ≡ over (moved base heap (take active slots) (replicate room 0)) slots
  rehashed z ez =
      let new = moved base heap (take active slots) (replicate room 0) in
      let q : z ≡ new = ez ∙ rw (kept, take_at y (drop room slots) room cleared_length, cleared) refl in
      let l : length new ≡ room = length_moved base heap (take active slots) (replicate room 0) ∙ length-replicate room 0 in
      rw (drop_at y (drop room slots) room cleared_length, q) (sym (over-is new slots (rw l k) ∙ ap (λ (n : ℕ). new ++ drop n slots) l))

-- ---- room for one name more, with or without growing

module _ (active len : ℕ) where
  pub room_stays : (len + 1) * 2 ≤ active → active ≡ room_of active len
  unfolding room_of
  room_stays h = rw (le-leb _ _ h) refl

  pub room_first : active < (len + 1) * 2 → active ≡ 0 → 64 ≡ room_of active len
  unfolding room_of
  room_first h e = rw (lt-leb _ _ h, eq-eqb _ _ e) refl

  pub room_doubles : active < (len + 1) * 2 → (active ≡ 0 → ⊥) → active * 2 ≡ room_of active len
  unfolding room_of
  room_doubles h e = rw (lt-leb _ _ h, ne_eqb _ _ e) refl

  pub room_holds : len ≤ active → (active ≤ room_of active len) × (len + 1 ≤ room_of active len)
  unfolding room_of
  room_holds h = go (leb ((len + 1) * 2) active) (eqb active 0) refl refl
    where
      go : (s t : Bool) → leb ((len + 1) * 2) active ≡ s → eqb active 0 ≡ t
          → (active ≤ cond s active (cond t 64 (active * 2))) × (len + 1 ≤ cond s active (cond t 64 (active * 2)))
      go true t p q = let k = leb-true ((len + 1) * 2) active p in (omega arith, omega arith)
      go false true p q = let z = eqb-true active 0 q in (omega arith, omega arith)
      go false false p q = let z = eqb-false active 0 q in (omega arith, omega arith)

pub length-with_room : (base : ℕ) (heap t : List ℕ) (m : ℕ) → length t ≤ m → length (with_room base heap t m) ≡ m
unfolding with_room widened
length-with_room base heap t m h = go (ltb (length t) m) refl
  where
    go : (b : Bool) → ltb (length t) m ≡ b → length (widened b base heap t m) ≡ m
    go true e = length_moved base heap t (replicate m 0) ∙ length-replicate m 0
    go false e = omega (arith, ltb-false (length t) m e)

module _ (base : ℕ) (heap slots spare : List ℕ) (active room : ℕ) (k : room ≤ length slots) where
  pub widens : (x y : List ℕ) → active < room
      → (x ≡ over (moved base heap (take active slots) (replicate room 0)) slots) × (y ≡ over (take active slots) spare)
      → (x ≡ over (with_room base heap (take active slots) room) slots) × (y ≡ spare_after (ltb active room) (take active slots) spare)
  unfolding with_room widened spare_after
  widens x y h e =
      let l : length (take active slots) ≡ active = length-take-le active slots (omega arith) in
      rw (l, lt-ltb active room h) e

  pub stays : active ≤ room → room ≤ active
      → (slots ≡ over (with_room base heap (take active slots) room) slots) × (spare ≡ spare_after (ltb active room) (take active slots) spare)
  unfolding with_room widened spare_after
  stays h e =
      let l : length (take active slots) ≡ active = length-take-le active slots (omega arith) in
      rw (l, le-ltb active room e) (sym (over-take active slots), refl)

-- ---- the new name
module _ (base : ℕ) (heap : List ℕ) (t : StrTable) (slots : List ℕ) (room : ℕ) (e : room ≡ room_of t.active t.len)
    (few : t.len ≤ t.active) (fits : room_of t.active t.len ≤ length slots) where
  abbrev grown : List ℕ
  grown = with_room base heap (take t.active slots) room

  holds-active : t.active ≤ room
  holds-active = omega (arith, e, (room_holds t.active t.len few).0)

  in_slots : room ≤ length slots
  in_slots = omega (arith, e, fits)

  grown_length : length grown ≡ room
  grown_length =
      let h = holds-active in
      let k = in_slots in
      length-with_room base heap (take t.active slots) room (rw (length-take-le t.active slots (omega arith)) h)

  -- the active part is lent on
  pub active-there : (x : List ℕ) → x ≡ over grown slots → room ≡ length (take room x)
  active-there x p =
      let l : length x ≡ length slots = ap length p ∙ length_over grown slots in
      let k = in_slots in
      sym (length-take-le room x (omega arith))

  -- and is given back
  pub insert_is : (hash v : ℕ) (spare x y z : List ℕ) → x ≡ over grown slots
      → y ≡ spare_after (ltb t.active room) (take t.active slots) spare → z ≡ placed hash v (take room x)
      → inserted (record { active = room; len = t.len + 1 }) (z ++ drop room x) y ≡ insert_of base heap hash v t slots spare
  unfolding insert_of
  insert_is hash v spare x y z p q r =
      let k = in_slots in
      let active-part : take room x ≡ grown = ap (take room) p ∙ ap (λ (n : ℕ). take n (over grown slots)) (sym grown_length)
      ∙ take-over grown slots (rw grown_length k) in
      let placed-is : z ≡ placed hash v grown = r ∙ ap (placed hash v) active-part in
      let l : length (placed hash v grown) ≡ room = length-placed hash v grown ∙ grown_length in
      rw (placed-is, p, q, front_returned (placed hash v grown) grown slots room l grown_length k, e) refl
