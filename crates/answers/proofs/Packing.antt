-- Packing and unpacking are inverse on every state. Assumes nothing.
use mathlib.Core.Path.{◌≡◌, refl, sym, ap, ◌∙◌}
use Prim.Native.Nat.{ℕ, ◌+◌, ◌≤◌}
use mathlib.Core.List.{List, [], ◌∷◌, ◌++◌, append_assoc}
use native.Mathlib.Omega.{arith}
use lib.ListN.{length, take, drop, get_or, set, length-append, length-drop, length-set}
use lib.Seq.{take-suc, take_at, get_or-append-add, length-take-le}
use borrow.Rule.Slice.PartMut.{put_mid}
use Rattle.std.proofs.lemmas.List.{take-set-le, get_or-set_same, get_or-set_other, drop_at, drop-drop, drop-set-lt}
use Rattle.std.proofs.lemmas.Slice.{drop-append-drop}
use Rattle.memory.specs.Lists.{over}
use Rattle.memory.proofs.Over.{over-take, over-is}
use Rattle.vm.specs.declared.State.{State}
use Rattle.names.specs.declared.interner.Names.{Names}
use Rattle.names.specs.Interned.{names_of, in_state}
use Rattle.answers.specs.Words.{state_words, names, numbers, packed, unpacked}

-- a list written over one as long
pub over_whole : (new old : List ℕ) → length new ≡ length old → over new old ≡ new
unfolding over
over_whole [] [] e = refl
over_whole [] (y ∷ old) e = absurd (omega (arith, e))
over_whole (x ∷ new) [] e = absurd (omega (arith, e))
over_whole (x ∷ new) (y ∷ old) e = ap (λ (r : List ℕ). x ∷ r) (over_whole new old (omega (arith, e)))

pub length-packed : (s : State) → length s.regs ≡ 32 → length (packed s) ≡ state_words
unfolding packed
length-packed s long = length-append s.regs (numbers s) ∙ ap (λ (n : ℕ). n + 8) long

-- the first 40 words are the state that they hold
pub packed-unpacked : (w : List ℕ) → state_words ≤ length w → packed (unpacked w) ≡ take state_words w
unfolding packed unpacked
packed-unpacked w room =
    sym (rw (
      take-suc w 39 0 (omega arith),
      take-suc w 38 0 (omega arith),
      take-suc w 37 0 (omega arith),
      take-suc w 36 0 (omega arith),
      take-suc w 35 0 (omega arith),
      take-suc w 34 0 (omega arith),
      take-suc w 33 0 (omega arith),
      take-suc w 32 0 (omega arith),
    ) (simp append_assoc))

-- a state written over words: what lies behind it stays
pub over_packed : (s : State) (w : List ℕ) → length s.regs ≡ 32 → state_words ≤ length w → over (packed s) w ≡ packed s ++ drop state_words w
over_packed s w regs room =
    let size : length (packed s) ≡ state_words = length-packed s regs in
    over-is (packed s) w (rw size room) ∙ ap (λ (n : ℕ). packed s ++ drop n w) size

pub registers : (w : List ℕ) → state_words ≤ length w → length (unpacked w).regs ≡ 32
unfolding unpacked
registers w room = length-take-le 32 w (omega arith)

-- other numbers of heap and table, written over their own words
pub names-home : (w v : List ℕ) (n : Names) → state_words ≤ length w → v ≡ names n.gc n.strings
    → put_mid 34 6 w v ≡ over (packed (in_state (unpacked w) n)) w
unfolding packed unpacked
names-home w v n room e =
    let front : packed (in_state (unpacked w) n) ≡ take 34 w ++ names n.gc n.strings =
    sym (rw (take-suc w 33 0 (omega arith), take-suc w 32 0 (omega arith)) (simp append_assoc)) in
    rw (e, drop-drop 6 34 w)
    (sym (over_packed (in_state (unpacked w) n) w (registers w room) room ∙ ap (λ (r : List ℕ). r ++ drop 40 w) front
    ∙ append_assoc (take 34 w) (names n.gc n.strings) (drop 40 w)))

-- the registers of a state before other words, with pc and depth written over the first two of these
abbrev begun_on : State → List ℕ → List ℕ
begun_on s d = set (set (s.regs ++ d) 32 s.pc) 33 s.depth

-- a state, of which registers, pc and depth are there and the numbers of heap and table are written last
module _ (s : State) (w : List ℕ) (regs : length s.regs ≡ 32) (room : state_words ≤ length w) where
  abbrev begun : List ℕ
  begun = begun_on s (drop 32 w)

  first_room : state_words ≤ length (s.regs ++ drop 32 w)
  first_room = rw (length-append, length-drop, regs) (omega arith)

  begun_room : state_words ≤ length begun
  begun_room = rw (length-set, length-set) first_room

  pub packed-home-front : over (packed (in_state (unpacked begun) (names_of s))) begun ≡ over (packed s) w
  unfolding packed unpacked
  packed-home-front =
      let all = s.regs ++ drop 32 w in
      let wide : 40 ≤ length all = first_room in
      let first : take 32 begun ≡ s.regs =
      take-set-le 32 (set all 32 s.pc) 33 s.depth (omega arith) ∙ take-set-le 32 all 32 s.pc (omega arith)
      ∙ take_at s.regs (drop 32 w) 32 regs in
      let second : get_or begun 32 0 ≡ s.pc =
      get_or-set_other (set all 32 s.pc) 33 32 s.depth 0 (λ e. omega arith) ∙ get_or-set_same all 32 s.pc 0 (omega arith) in
      let third : get_or begun 33 0 ≡ s.depth = get_or-set_same (set all 32 s.pc) 33 s.depth 0 (rw length-set (omega arith)) in
      let same : packed (in_state (unpacked begun) (names_of s)) ≡ packed s = rw (first, second, third) refl in
      let behind : drop 40 begun ≡ drop 40 w =
      drop-set-lt 40 (set all 32 s.pc) 33 s.depth (omega arith) ∙ drop-set-lt 40 all 32 s.pc (omega arith)
      ∙ drop-append-drop 32 w s.regs 40 (omega arith) regs in
      over_packed (in_state (unpacked begun) (names_of s)) begun (registers begun begun_room) begun_room
      ∙ rw (same, behind) (sym (over_packed s w regs room))

-- over words that hold no more than the state, and whatever stood in the last eight
pub packed-home : (s : State) (d w : List ℕ) → length s.regs ≡ 32 → length d ≡ 8 → length w ≡ 40
    → over (packed (in_state (unpacked (begun_on s d)) (names_of s))) (begun_on s d) ≡ over (packed s) w
packed-home s d w regs rest long =
    let all = s.regs ++ d in
    let size : length all ≡ 40 = length-append s.regs d ∙ omega (arith, regs, rest) in
    let packs : (v : List ℕ) → length v ≡ 40 → over (packed s) v ≡ packed s = λ v e. over_whole (packed s) v (length-packed s regs ∙ sym e) in
    (rw (drop_at s.regs d 32 regs) at (packed-home-front s all regs (omega (arith, size)))) ∙ packs all size ∙ sym (packs w long)

-- 'unchanged': the state that words hold, written over them
pub pack_unpack : (w : List ℕ) → state_words ≤ length w → over (packed (unpacked w)) w ≡ w
pack_unpack w room = rw (packed-unpacked w room) (over-take state_words w)

behind : (p q : List ℕ) (k : ℕ) → length p ≡ 32 → get_or (p ++ q) (32 + k) 0 ≡ get_or q k 0
behind p q k e = ap (λ (n : ℕ). get_or (p ++ q) (n + k) 0) (sym e) ∙ get_or-append-add p q k 0

pub unpack_pack : (s : State) (w : List ℕ) → length s.regs ≡ 32 → state_words ≤ length w → unpacked (over (packed s) w) ≡ s
unfolding packed unpacked
unpack_pack s w long room =
    let q : List ℕ = numbers s ++ drop state_words w in
    let r = s.regs in
    rw (
      over_packed s w long room,
      append_assoc s.regs (numbers s),
      take_at r q 32 long,
      behind r q 0 long,
      behind r q 1 long,
      behind r q 2 long,
      behind r q 3 long,
      behind r q 4 long,
      behind r q 5 long,
      behind r q 6 long,
      behind r q 7 long,
    ) refl
