-- What the word of a checked image asks for: it goes on inside the code, reads only what is there, writes to a register that is there, and stops
-- with a listed number. Assumes nothing.
use Rattle.std.proofs.Common.{◌≡◌, ℕ, zero, suc, ◌-◌, ◌%◌, ◌<◌, Bool, true, false, cond, ltb, List, [], ◌∷◌, length, get_or, take, drop, refl, ap, ◌∙◌, le_of_suc-le-suc, not-suc-le-zero, ltb-true, lt-ltb, Result, Ok, Err}
use Rattle.anomaly.specs.declared.Refusal.{Refusal}
use Rattle.anomaly.specs.declared.Refusal.TheVariants.{Operand}
use Rattle.memory.proofs.Tests.{both}
use Rattle.anomaly.specs.Table.{is_anomaly}
use Rattle.value.specs.declared.int.DivisionError.{DivisionError}
use Rattle.value.specs.declared.int.DivisionError.TheVariants.{ByZero, Overflow}
use Rattle.value.specs.Cast.{truth}
use Rattle.op.specs.declared.Op.{Op}
use Rattle.op.specs.declared.Op.TheVariants.{Halt}
use Rattle.op.specs.Layout.{Parts, parts_of, passes, Field, unused, register}
use Rattle.op.specs.Decode.{Row, row, absent, rows, row_of, decoded_by, decode_of}
use Rattle.op.specs.Reach.{reach_of, check_of}
use Rattle.op.specs.Operands.{In, Makes, There}
use Rattle.op.proofs.Rows.{Each, each_row, ◌also◌}
use Rattle.op.proofs.Sound.{makes, fine}
use Rattle.anomaly.specs.declared.Anomaly.TheVariants.{DivisionByZero, AllocationFailed, StackOverflow, AssertionFailed, BadAddress}
use Rattle.anomaly.specs.declared.Anomaly.TheVariants.{QuotientOverflow, FrameUnderflow}
use Rattle.effects.specs.declared.Stop.{Stop}
use Rattle.effects.specs.declared.Stop.TheVariants as stop
use Rattle.effects.specs.declared.Effect.{Effect}
use Rattle.effects.specs.declared.Effect.TheVariants as effect
use Rattle.effects.specs.Stops.{number_of_stop, IsAnomaly, EndsListed}
use Rattle.program.specs.Image.{Image, start_of, entries_of, counts, below}
use Rattle.effects.specs.Effect.{divided, jump_if, within, switched, effect_of, word_effect}

-- an effect of an instruction on code of n words: it writes to a register that is there, goes on inside the code, and stops with a listed
-- number
abbrev pub EffectOk : ℕ → Effect → Type 0
EffectOk n (effect.Set dst v) = dst < 32
EffectOk n effect.Skip = Unit {0}
EffectOk n (effect.Goto target) = target < n
EffectOk n (effect.Call func) = func < n
EffectOk n effect.Ret = Unit {0}
EffectOk n (effect.Load dst base offset) = dst < 32
EffectOk n (effect.Store base offset v) = Unit {0}
EffectOk n (effect.Alloc kind dst size) = dst < 32
EffectOk n (effect.Stop why) = IsAnomaly why
EffectOk n (effect.Unlisted number) = ⊥
EffectOk n effect.Halt = Unit {0}

-- an anomaly's number is listed
pub anomaly_listed : (why : Stop) → IsAnomaly why → is_anomaly (number_of_stop why) ≡ true
anomaly_listed (stop.Anomaly DivisionByZero) a = refl
anomaly_listed (stop.Anomaly AllocationFailed) a = refl
anomaly_listed (stop.Anomaly StackOverflow) a = refl
anomaly_listed (stop.Anomaly AssertionFailed) a = refl
anomaly_listed (stop.Anomaly BadAddress) a = refl
anomaly_listed (stop.Anomaly QuotientOverflow) a = refl
anomaly_listed (stop.Anomaly FrameUnderflow) a = refl
anomaly_listed (stop.Refused why) a = absurd a

pub ends_listed : (n : ℕ) (e : Effect) → EffectOk n e → EndsListed e
ends_listed n (effect.Set dst v) o = tt
ends_listed n effect.Skip o = tt
ends_listed n (effect.Goto target) o = tt
ends_listed n (effect.Call func) o = tt
ends_listed n effect.Ret o = tt
ends_listed n (effect.Load dst base offset) o = tt
ends_listed n (effect.Store base offset v) o = tt
ends_listed n (effect.Alloc kind dst size) o = tt
ends_listed n (effect.Stop why) o = o
ends_listed n (effect.Unlisted number) o = o
ends_listed n effect.Halt o = tt

either : (n : ℕ) (b : Bool) (x y : Effect) → (b ≡ true → EffectOk n x) → (b ≡ false → EffectOk n y) → EffectOk n (cond b x y)
either n true x y h k = h refl
either n false x y h k = k refl

jump_ok : (n : ℕ) (b : Bool) (target : ℕ) → target < n → EffectOk n (jump_if b target)
unfolding jump_if
jump_ok n b target h = either n b _ _ (λ e. h) (λ e. tt)

divided_ok : (n dst : ℕ) (d : Result ℕ DivisionError) → dst < 32 → EffectOk n (divided dst d)
unfolding divided
divided_ok n dst (Ok v) o = o
divided_ok n dst (Err ByZero) o = tt
divided_ok n dst (Err Overflow) o = tt

-- a read at a place that is there
within_ok : (n i k : ℕ) (e : Effect) → i < k → EffectOk n e → EffectOk n (within i k e)
unfolding within
within_ok n i k e h o = rw (lt-ltb i k h) o

below-drop : (n a : ℕ) (xs : List ℕ) → below n xs ≡ true → below n (drop a xs) ≡ true
below-drop n zero xs h = h
below-drop n (suc a) [] h = h
below-drop n (suc a) (x ∷ xs) h = below-drop n a xs (rest n x xs h)
  where
    rest : (n x : ℕ) (xs : List ℕ) → below n (x ∷ xs) ≡ true → below n xs ≡ true
    rest n x xs h = (both (ltb x n) (below n xs) (unfold below in h)).1

pub below-take : (n m : ℕ) (xs : List ℕ) → below n xs ≡ true → below n (take m xs) ≡ true
unfolding below
below-take n zero xs h = refl
below-take n (suc m) [] h = refl
below-take n (suc m) (x ∷ xs) h = let k = both (ltb x n) _ h in rw k.0 (below-take n m xs k.1)

below_at : (n : ℕ) (xs : List ℕ) (i : ℕ) → below n xs ≡ true → i < length xs → get_or xs i 0 < n
unfolding below
below_at n [] i h l = absurd (not-suc-le-zero l)
below_at n (x ∷ xs) zero h l = ltb-true x n (both (ltb x n) _ h).0
below_at n (x ∷ xs) (suc i) h l = below_at n xs i (both (ltb x n) _ h).1 (le_of_suc-le-suc l)

switched_ok : (n : ℕ) (targets : List ℕ) (s : ℕ) → below n targets ≡ true → EffectOk n (switched targets s)
unfolding switched
switched_ok n targets s h = either n (ltb s (length targets)) _ _ (λ e. below_at n targets s h (ltb-true s (length targets) e)) (λ e. tt)

entries_ok : (n : ℕ) (im : Image) (k : ℕ) → below n im.switches.entries ≡ true → below n (entries_of im.switches k) ≡ true
unfolding entries_of
entries_ok n im k h =
    let from = start_of im.switches.ends k in
    below-take n (get_or im.switches.ends k 0 - from) (drop from im.switches.entries) (below-drop n from im.switches.entries h)

-- ---- each row: what its instruction asks for, of parts that hold what they may and name what is there

module _ (im : Image) (r : List ℕ) (targets : below (length im.code) im.switches.entries ≡ true) where
  abbrev n : ℕ
  n = length im.code

  abbrev RowOk : Row → Type 0
  RowOk (row a b c d reach make) = (p : Parts) → In a b c d p → There (counts im) reach p → EffectOk n (effect_of im r (make p))
  RowOk absent = Unit {0}

  -- it sets the register in byte 1; it writes to none and goes on
  sets : {b c d : Field} {H : Type 0} (p : Parts) → In register b c d p → H → p.one < 32
  sets p i h = i.one

  free : {a b c d : Field} {H : Type 0} (p : Parts) → In a b c d p → H → Unit {0}
  free p i h = tt

  all_ok : Each RowOk rows
  unfolding rows effect_of counts
  all_ok =
      -- 0: integer arithmetic
      sets also sets also sets also sets also sets also sets also
      -- 6: IDiv, IDivI, IMod, IModI
      (λ p i h. divided_ok _ _ _ i.one) also (λ p i h. divided_ok _ _ _ i.one) also
      (λ p i h. divided_ok _ _ _ i.one) also (λ p i h. divided_ok _ _ _ i.one) also
      sets also sets also
      -- 12: comparisons and doubles
      sets also sets also sets also sets also sets also sets also
      sets also sets also sets also sets also sets also sets also sets also sets also
      -- 26: Mov, LoadI, LoadG
      sets also sets also (λ p i h. within_ok _ _ _ _ h i.one) also
      -- 29: Jmp, then those that jump on a condition
      (λ p i h. h) also
      (λ p i h. jump_ok _ _ _ h) also (λ p i h. jump_ok _ _ _ h) also (λ p i h. jump_ok _ _ _ h) also
      (λ p i h. jump_ok _ _ _ h) also (λ p i h. jump_ok _ _ _ h) also (λ p i h. jump_ok _ _ _ h) also
      -- 36: Switch, Lookup, Tail, Call
      (λ p i h. within_ok _ _ _ _ h (switched_ok _ _ _ (entries_ok _ im _ targets))) also (λ p i h. within_ok _ _ _ _ h i.one) also
      (λ p i h. h) also (λ p i h. h) also
      -- 40: not carried
      tt also tt also tt also tt also tt also tt also tt also tt also tt also tt also
      -- 50: the casts, Alloc, Store, Load, AddrOf
      sets also sets also sets also sets also free also sets also sets also
      -- 57: Ret, Assert, Halt, Nop
      free also (λ p i h. either _ (truth (get_or r p.one 0)) _ _ (λ e. tt) (λ e. tt)) also free also free also
      tt

  by_row : (x : Row) (p : Parts) (op : Op) → RowOk x → Makes x p op → There (counts im) (reach_of x) p → EffectOk n (effect_of im r op)
  by_row (row a b c d reach make) p op ok m h = rw m.1 at (ok p m.0 h)
  by_row absent p op ok m h = absurd m

  pub asks_ok : (w : ℕ) → check_of (counts im) w ≡ Ok tt → EffectOk n (word_effect im r (decode_of w))
  unfolding word_effect
  asks_ok w h =
      let runs = fine (counts im) w h in
      let place = w % 256 in
      rw runs.decodes
      (by_row (row_of place) (parts_of w) runs.op (each_row RowOk tt all_ok place) (makes w runs.op runs.decodes) runs.reaches)

-- ---- the last word

only_halt : (b : Bool) (op : Op) → ◌≡◌ {A = Result Op Refusal} (cond b (Ok Halt) (Err Operand)) (Ok op) → op ≡ Halt
only_halt true op e = cc
only_halt false op e = cc

-- a word with the opcode of Halt is a Halt, where it is an instruction
halt_word : (w : ℕ) (op : Op) → w % 256 ≡ 59 → decode_of w ≡ Ok op → op ≡ Halt
unfolding decode_of rows decoded_by
halt_word w op e h = only_halt (passes unused unused unused unused (parts_of w)) op (row 59 refl ∙ h)
  where
    row : (k : ℕ) → k ≡ 59 → cond (passes unused unused unused unused (parts_of w)) (Ok Halt) (Err Operand)
        ≡ decoded_by (row_of (w % 256)) (parts_of w)
    row k q = rw (ap (λ (j : ℕ). decoded_by (row_of j) (parts_of w)) e) refl

pub halt_effect : (im : Image) (r : List ℕ) (w : ℕ) → check_of (counts im) w ≡ Ok tt → w % 256 ≡ 59 → word_effect im r (decode_of w) ≡ effect.Halt
unfolding word_effect effect_of
halt_effect im r w h e = let runs = fine (counts im) w h in rw (runs.decodes, halt_word w runs.op e runs.decodes) refl
