-- A new name in a sound table leaves a sound table: what 9 asks of the slots is kept as they fill and as they grow. Assumes nothing.
use mathlib.Core.Path.{◌≡◌, refl, ◌∙◌}
use Prim.Native.Nat.{ℕ, zero, suc, ◌+◌, ◌-◌, ◌*◌, ◌^◌, ◌≤◌, ◌<◌}
use mathlib.Core.Bool.{Bool, true, false, cond, ◌||◌}
use mathlib.Core.List.{List, [], ◌∷◌}
use native.Mathlib.Omega.{arith}
use lib.ListN.{length, get_or, set, replicate, length-replicate}
use lib.Dec.{leb, ltb, eqb}
use borrow.Author.Tests.{eq-eqb, ne_eqb, eqb-true, eqb-false, leb-true, le-leb}
use Rattle.memory.proofs.Tests.{both}
use Rattle.str_table.specs.declared.Probe.{Probe}
use Rattle.str_table.specs.declared.Probe.TheVariants.{Found, Vacant, Full}
use Rattle.string.specs.Payload.{reaches}
use Rattle.str_table.specs.Table.{home, probe, lookup, never, filled, placed}
use Rattle.str_table.specs.Grow.{stored_hash, moved_one, moved, room_of, widened, with_room}
use Rattle.str_table.specs.Sound.{slot_count, filled_in, headers_in, count_ok, slots_ok}
use Rattle.str_table.proofs.Counting.{slot_cases, slot_power}
use Rattle.str_table.proofs.NeverFull.{empty_slot, meets}
use Rattle.str_table.proofs.Probes.{home_lt, length-placed}
use Rattle.str_table.proofs.Moves.{length-with_room, room_holds}

-- ---- one slot filled

set-counts : (t : List ℕ) (i v : ℕ) → i < length t → get_or t i 0 ≡ 0 → (v ≡ 0 → ⊥) → filled_in (set t i v) ≡ filled_in t + 1
unfolding filled_in
set-counts [] i v h e z = absurd (omega arith)
set-counts (w ∷ t) zero v h e z = rw (eq-eqb w 0 e, ne_eqb v 0 z) (omega arith)
set-counts (w ∷ t) (suc i) v h e z = let k = set-counts t i v (omega arith) e z in omega (arith, k)

or_true : (b : Bool) → (b || true) ≡ true
or_true true = refl
or_true false = refl

set_headers : (base n : ℕ) (t : List ℕ) (i v : ℕ) → headers_in base n t ≡ true → reaches base n v 8 ≡ true → headers_in base n (set t i v) ≡ true
unfolding headers_in
set_headers base n [] i v h r = h
set_headers base n (w ∷ t) zero v h r = let k = both (eqb w 0 || reaches base n w 8) _ h in rw (r, or_true (eqb v 0)) k.1
set_headers base n (w ∷ t) (suc i) v h r = let k = both (eqb w 0 || reaches base n w 8) _ h in rw k.0 (set_headers base n t i v k.1 r)

-- headers stay in pages that grow
reaches_more : (base n m v : ℕ) → n ≤ m → reaches base n v 8 ≡ true → reaches base m v 8 ≡ true
unfolding reaches
reaches_more base n m v le r =
    let k = both (leb base v) _ r in
    let e = leb-true (v - base + 8) n k.1 in
    rw k.0 (le-leb (v - base + 8) m (omega arith))

headers_more : (base n m : ℕ) (t : List ℕ) → n ≤ m → headers_in base n t ≡ true → headers_in base m t ≡ true
unfolding headers_in
headers_more base n m [] le h = refl
headers_more base n m (w ∷ t) le h =
    let k = both (eqb w 0 || reaches base n w 8) _ h in
    rw (head (eqb w 0) k.0) (headers_more base n m t le k.1)
  where
    head : (b : Bool) → (b || reaches base n w 8) ≡ true → (b || reaches base m w 8) ≡ true
    head true q = refl
    head false q = reaches_more base n m w le q

-- ---- a value placed

-- what probing for an empty slot comes to
abbrev Comes : List ℕ → Probe → Type 0
Comes t (Found w) = ⊥
Comes t (Vacant i) = (i < length t) × (get_or t i 0 ≡ 0)
Comes t Full = Unit {0}

probe_comes : (t : List ℕ) (m i : ℕ) → i < length t → Comes t (probe never t m i)
unfolding probe never
probe_comes t zero i h = tt
probe_comes t (suc m) i h =
    let on : ℕ = home (i + 1) (length t) in
    by (eqb (get_or t i 0) 0) refl (probe never t m on) (probe_comes t m on (home_lt (i + 1) (length t) (omega arith)))
  where
    by : (b : Bool) → eqb (get_or t i 0) 0 ≡ b → (p : Probe) → Comes t p → Comes t (elim b [ true ↦ Vacant i | false ↦ p ])
    by true e p c = (h, eqb-true (get_or t i 0) 0 e)
    by false e p c = c

-- a table of so many slots, a power of two, that is not full
module _ (t : List ℕ) (k : ℕ) (long : length t ≡ 2 ^ k) (free : filled_in t < length t) where
  lookup_comes : (hash : ℕ) → Comes t (lookup never t hash)
  unfolding lookup
  lookup_comes hash = probe_comes t (length t) (home hash (length t)) (home_lt hash (length t) (omega arith))

  lookup_meets : (hash : ℕ) → lookup never t hash ≡ Full → ⊥
  lookup_meets hash = let e = empty_slot t free in meets never t k long e.at e.in_it e.is hash

  placed-counts : (hash v : ℕ) → (v ≡ 0 → ⊥) → filled_in (placed hash v t) ≡ filled_in t + 1
  unfolding placed filled
  placed-counts hash v z = by (lookup never t hash) refl (lookup_comes hash)
    where
      by : (p : Probe) → lookup never t hash ≡ p → Comes t p → filled_in (filled v t p) ≡ filled_in t + 1
      by (Found w) e c = absurd c
      by (Vacant i) e c = set-counts t i v c.0 c.1 z
      by Full e c = absurd (lookup_meets hash e)

placed_headers : (base n : ℕ) (t : List ℕ) (hash v : ℕ) → headers_in base n t ≡ true → reaches base n v 8 ≡ true
    → headers_in base n (placed hash v t) ≡ true
unfolding placed filled
placed_headers base n t hash v h r = by (lookup never t hash)
  where
    by : (p : Probe) → headers_in base n (filled v t p) ≡ true
    by (Found w) = h
    by (Vacant i) = set_headers base n t i v h r
    by Full = h

-- ---- the old slots placed again

module _ (base : ℕ) (heap : List ℕ) where
  moved-counts : (old t : List ℕ) (k : ℕ) → length t ≡ 2 ^ k → filled_in t + filled_in old < length t
      → filled_in (moved base heap old t) ≡ filled_in t + filled_in old
  unfolding moved moved_one filled_in
  moved-counts [] t k long free = omega arith
  moved-counts (v ∷ old) t k long free = by (eqb v 0) refl free (λ u. moved-counts old u k)
    where
      by : (b : Bool) → eqb v 0 ≡ b → filled_in t + (cond b 0 1 + filled_in old) < length t
          → ((u : List ℕ) → length u ≡ 2 ^ k → filled_in u + filled_in old < length u
          → filled_in (moved base heap old u) ≡ filled_in u + filled_in old)
          → filled_in (moved base heap old (moved_one b base heap v t)) ≡ filled_in t + (cond b 0 1 + filled_in old)
      by true e f rest = omega (arith, rest t long (omega arith))
      by false e f rest =
          let hash = stored_hash base heap v in
          let c = placed-counts t k long (omega arith) hash v (eqb-false v 0 e) in
          let l = length-placed hash v t in
          omega (arith, c, rest (placed hash v t) (l ∙ long) (omega (arith, c, l)))

  moved_headers : (n : ℕ) (old t : List ℕ) → headers_in base n old ≡ true → headers_in base n t ≡ true
      → headers_in base n (moved base heap old t) ≡ true
  unfolding moved moved_one headers_in
  moved_headers n [] t o h = h
  moved_headers n (v ∷ old) t o h =
      let k = both (eqb v 0 || reaches base n v 8) _ o in
      by (eqb v 0) k.0 (λ u. moved_headers n old u k.1)
    where
      by : (b : Bool) → (b || reaches base n v 8) ≡ true
          → ((u : List ℕ) → headers_in base n u ≡ true → headers_in base n (moved base heap old u) ≡ true)
          → headers_in base n (moved base heap old (moved_one b base heap v t)) ≡ true
      by true r rest = rest t h
      by false r rest = rest (placed (stored_hash base heap v) v t) (placed_headers base n t (stored_hash base heap v) v h r)

-- ---- what 9 asks of the active slots, with n pushed bytes and a stored count: none of its clauses

pub record SlotsSound (base n len : ℕ) (slots : List ℕ) : Type 0 where
  -- 'active slots neither 0 nor a power of two of 64 or more'
  pub active : (eqb (length slots) 0 || slot_count (length slots)) ≡ true
  -- 'a filled slot whose header isn't in pushed pages'
  pub headers : headers_in base n slots ≡ true
  -- 'the stored count unequal to the filled slots, or doubled above them'
  pub count : filled_in slots ≡ len
  pub half : len * 2 ≤ length slots

pub no_slots_sound : (base n : ℕ) → SlotsSound base n 0 []
unfolding headers_in filled_in
no_slots_sound base n = record { active = refl; headers = refl; count = refl; half = omega arith }

pub slots-sound_ok : (base n len : ℕ) (slots : List ℕ) → SlotsSound base n len slots → slots_ok base n len slots ≡ true
unfolding slots_ok count_ok
slots-sound_ok base n len slots f = rw (f.headers, eq-eqb (filled_in slots) len f.count, le-leb (len * 2) (length slots) f.half) refl

pub slots-sound-more : (base n m len : ℕ) (slots : List ℕ) → n ≤ m → SlotsSound base n len slots → SlotsSound base m len slots
slots-sound-more base n m len slots le f =
    record { active = f.active; headers = headers_more base n m slots le f.headers; count = f.count; half = f.half }

-- ---- room for one name more

-- twice as many slots, while they can be lent
doubled_count : (n : ℕ) → slot_count n ≡ true → n * 2 ≤ 4096 → slot_count (n * 2) ≡ true
unfolding slot_count
doubled_count =
    slot_cases (λ n. n * 2 ≤ 4096 → slot_count (n * 2) ≡ true) (λ l. refl) (λ l. refl) (λ l. refl) (λ l. refl) (λ l. refl) (λ l. refl)
    (λ l. absurd (omega arith))

-- a power of two, at most half full with the new name
record Roomy (len room : ℕ) : Type 0 where
  count : slot_count room ≡ true
  half : (len + 1) * 2 ≤ room

roomy : (active len : ℕ) → (eqb active 0 || slot_count active) ≡ true → len * 2 ≤ active → room_of active len ≤ 4096
    → Roomy len (room_of active len)
unfolding room_of
roomy active len ok half le = go (leb ((len + 1) * 2) active) (eqb active 0) refl refl ok le
  where
    go : (s t : Bool) → leb ((len + 1) * 2) active ≡ s → eqb active 0 ≡ t → (t || slot_count active) ≡ true
        → cond s active (cond t 64 (active * 2)) ≤ 4096 → Roomy len (cond s active (cond t 64 (active * 2)))
    go true true p q o l = let k = leb-true ((len + 1) * 2) active p in let z = eqb-true active 0 q in absurd (omega arith)
    go true false p q o l = record { count = o; half = leb-true ((len + 1) * 2) active p }
    go false true p q o l = let z = eqb-true active 0 q in record { count = unfold slot_count in refl; half = omega arith }
    go false false p q o l = let z = eqb-false active 0 q in record { count = doubled_count active o l; half = omega arith }

-- the same names in more slots
empty_counts : (m : ℕ) → filled_in (replicate m 0) ≡ 0
unfolding filled_in
empty_counts zero = refl
empty_counts (suc m) = let e = empty_counts m in omega arith

empty_headers : (base n m : ℕ) → headers_in base n (replicate m 0) ≡ true
unfolding headers_in
empty_headers base n zero = refl
empty_headers base n (suc m) = empty_headers base n m

module _ (base : ℕ) (heap slots : List ℕ) (room : ℕ) where
  room_counts : (k : ℕ) → room ≡ 2 ^ k → filled_in slots < room → filled_in (with_room base heap slots room) ≡ filled_in slots
  unfolding with_room widened
  room_counts k power free = by (ltb (length slots) room)
    where
      by : (b : Bool) → filled_in (widened b base heap slots room) ≡ filled_in slots
      by true =
          let e = empty_counts room in
          let l : length (replicate {A = ℕ} room 0) ≡ room = length-replicate {A = ℕ} room 0 in
          omega (arith, moved-counts base heap slots (replicate room 0) k (l ∙ power) (omega arith))
      by false = refl

  room_headers : (n : ℕ) → headers_in base n slots ≡ true → headers_in base n (with_room base heap slots room) ≡ true
  unfolding with_room widened
  room_headers n h = by (ltb (length slots) room)
    where
      by : (b : Bool) → headers_in base n (widened b base heap slots room) ≡ true
      by true = moved_headers base heap n slots (replicate room 0) h (empty_headers base n room)
      by false = h

-- ---- a new name: its slot filled, its header in pushed pages, and counted

pub insert_sound : (base : ℕ) (heap : List ℕ) (n len : ℕ) (slots : List ℕ) (hash v : ℕ) → SlotsSound base n len slots → (v ≡ 0 → ⊥)
    → reaches base n v 8 ≡ true → length (placed hash v (with_room base heap slots (room_of (length slots) len))) ≤ 4096
    → SlotsSound base n (len + 1) (placed hash v (with_room base heap slots (room_of (length slots) len)))
insert_sound base heap n len slots hash v f z r le =
    let room = room_of (length slots) len in
    let wide = with_room base heap slots room in
    let half = f.half in
    let long : length wide ≡ room = length-with_room base heap slots room (room_holds (length slots) len (omega arith)).0 in
    let put : length (placed hash v wide) ≡ room = length-placed hash v wide ∙ long in
    let new = roomy (length slots) len f.active half (rw put at le) in
    let power = slot_power room new.count in
    let names = f.count in
    let counts = room_counts base heap slots room power.exponent power.is (omega (arith, new.half)) ∙ names in
    record {
      active = rw (put, new.count) (or_true (eqb room 0));
      headers = placed_headers base n wide hash v (room_headers base heap slots room n f.headers) r;
      count = rw counts at (placed-counts wide power.exponent (long ∙ power.is) (omega (arith, counts, long, new.half)) hash v z);
      half = rw put new.half;
    }
