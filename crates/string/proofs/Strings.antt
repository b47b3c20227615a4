-- Strings in the pushed bytes: written, found at an address, compared. Assumes nothing.
use mathlib.Core.Path.{◌≡◌, refl, sym, ap, ap₂, ◌∙◌}
use Prim.Native.Nat.{ℕ, ◌+◌, ◌-◌, ◌≤◌, ◌<◌}
use mathlib.Core.Bool.{Bool, true, false, ◌&&◌, and-false}
use mathlib.Core.List.{List, ◌++◌, append_assoc}
use mathlib.Core.Logic.{◌⊎◌, inl, inr}
use native.Mathlib.Omega.{arith}
use native.Mathlib.Nat.{zero-add}
use lib.ListN.{length, take, drop, length-append, length-drop}
use lib.Seq.{length-take-le}
use lib.Dec.{leb}
use borrow.Author.Tests.{le-leb, lt-leb, leb-true, leb-false, eq-eqb, ne_eqb}
use Rattle.memory.specs.Bytes.{bytes_of}
use Rattle.memory.specs.Lists.{over, write, same}
use Rattle.memory.proofs.Tests.{both, leb_minus}
use Rattle.memory.proofs.Over.{tail_returned, write-append, length-write}
use Rattle.memory.proofs.Bytes.{length-bytes_of}
use Rattle.string.specs.Payload.{payload_of, reaches, length_at, hash_at, headed, bytes_at, holds}

-- ---- written

-- a run of bytes written behind another that starts at the beginning
behind : (k : ℕ) (bs cs to : List ℕ) → length bs ≡ k → write k cs (write 0 bs to) ≡ write 0 (bs ++ cs) to
behind k bs cs to e = ap (λ (n : ℕ). write n cs (write 0 bs to)) (sym (zero-add (length bs) ∙ e)) ∙ write-append 0 bs cs to

pub payload_written : (s to one two e : List ℕ) (hash len word : ℕ) → 8 ≤ length to → len ≡ length s → word ≡ hash
    → one ≡ write 0 (bytes_of 4 len) to → two ≡ write 4 (bytes_of 4 word) one
    → e ≡ over s (take (length two - 8) (drop 8 two)) → take 8 two ++ (e ++ drop (length two - 8) (drop 8 two)) ≡ over (payload_of s hash) to
unfolding payload_of write
payload_written s to one two e hash len word h el ew p q r =
    let head = bytes_of 4 (length s) ++ bytes_of 4 hash in
    let two_is : two ≡ write 0 head to = q ∙ ap₂ (λ w l. write 4 (bytes_of 4 w) l) ew (p ∙ ap (λ (n : ℕ). write 0 (bytes_of 4 n) to) el)
    ∙ behind 4 (bytes_of 4 (length s)) (bytes_of 4 hash) to (length-bytes_of 4 (length s)) in
    let head-long : length head ≡ 8 = length-append (bytes_of 4 (length s)) (bytes_of 4 hash)
    ∙ ap₂ ◌+◌ (length-bytes_of 4 (length s)) (length-bytes_of 4 hash) in
    let long : 8 ≤ length two = rw (two_is, length-write 0 head to) h in
    ap (λ (l : List ℕ). take 8 two ++ (l ++ drop (length two - 8) (drop 8 two))) r
    ∙ tail_returned 8 (length two) s two refl long
    ∙ ap (write 8 s) two_is
    ∙ behind 8 head s to head-long
    ∙ ap (λ (l : List ℕ). over l to) (append_assoc (bytes_of 4 (length s)) (bytes_of 4 hash) s)

-- ---- at an address

short_outside : (base n v k : ℕ) → n < v - base + k → false ≡ reaches base n v k
unfolding reaches
short_outside base n v k h = rw (lt-leb (v - base + k) n h, and-false) refl

-- below the first of them, or with no room for a header among them
pub outside : (base n v : ℕ) → (v < base) ⊎ ((base ≤ v) × (n < 8)) → false ≡ reaches base n v 8
unfolding reaches
outside base n v (inl h) = rw (lt-leb base v h) refl
outside base n v (inr h) = short_outside base n v 8 (omega arith)

pub reaches-is : (base n v k : ℕ) → base ≤ v → k ≤ n → leb (v - base) (n - k) ≡ reaches base n v k
unfolding reaches
reaches-is base n v k h q = rw (le-leb base v h) (leb_minus (v - base) k n (v - base + k) refl q)

-- what a test that passed says, and one that failed
pub record Within (base n v k : ℕ) : Type 0 where
  pub above : base ≤ v
  pub ends : v - base + k ≤ n

within : (base n v k : ℕ) → reaches base n v k ≡ true → Within base n v k
unfolding reaches
within base n v k e =
    let tests = both (leb base v) (leb (v - base + k) n) e in
    record { above = leb-true _ _ tests.0; ends = leb-true _ _ tests.1 }

-- by what `header_in` answered
pub header_found : (base n v : ℕ) (found : Bool) → found ≡ reaches base n v 8 → found ≡ true → Within base n v 8
header_found base n v found e t = within base n v 8 (sym e ∙ t)

-- a string of that length and hash, or none
module _ (base : ℕ) (heap : List ℕ) (len hash v : ℕ) where
  -- no header: no string
  pub no_header : (found : Bool) → found ≡ reaches base (length heap) v 8 → found ≡ false → headed base heap len hash v ≡ false
  unfolding headed reaches
  no_header found i t = go (leb base v) (leb (v - base + 8) (length heap)) refl refl (sym i ∙ t)
    where
      go : (t u : Bool) → leb base v ≡ t → leb (v - base + 8) (length heap) ≡ u → (t && u) ≡ false → headed base heap len hash v ≡ false
      go false u p q e = rw p refl
      go true true p q e = cc
      go true false p q e = let k = leb-false (v - base + 8) (length heap) q in rw (p, lt-leb (v - base + (8 + len)) (length heap) (omega arith)) refl

  module _ (w : Within base (length heap) v 8) where
    pub other_length : (x : ℕ) → x ≡ length_at base heap v → (x ≡ len → ⊥) → headed base heap len hash v ≡ false
    unfolding headed
    other_length x e n = let d = ne_eqb (length_at base heap v) len (λ q. n (e ∙ q)) in rw (d, and-false) refl

    pub other_hash : (x y : ℕ) → x ≡ hash_at base heap v → y ≡ hash → (x ≡ y → ⊥) → headed base heap len hash v ≡ false
    unfolding headed
    other_hash x y e h n = let d = ne_eqb (hash_at base heap v) hash (λ q. n (e ∙ q ∙ sym h)) in rw (d, and-false, and-false) refl

    pub cut_short : length heap - (v - base + 8) < len → headed base heap len hash v ≡ false
    unfolding headed
    cut_short h = let ends = w.ends in let d = short_outside base (length heap) v (8 + len) (omega arith) in rw (sym d) refl

    pub stands : (x y z : ℕ) → x ≡ length_at base heap v → x ≡ len → y ≡ hash_at base heap v → y ≡ z → z ≡ hash → len ≤ length heap - (v - base + 8)
        → headed base heap len hash v ≡ true
    unfolding headed reaches
    stands x y z p q r s t h =
        let above = w.above in
        let ends = w.ends in
        rw (
          le-leb base v above,
          le-leb (v - base + (8 + len)) (length heap) (omega arith),
          eq-eqb (length_at base heap v) len (sym p ∙ q),
          eq-eqb (hash_at base heap v) hash (sym r ∙ s ∙ t),
        ) refl

-- the string there, compared with a name of that length
module _ (base : ℕ) (heap s : List ℕ) (len hash v : ℕ) (e : len ≡ length s) where
  pub holds_none : headed base heap len hash v ≡ false → false ≡ holds base heap s hash v
  unfolding holds
  holds_none h = rw (← e, h) refl

  module _ (bytes : List ℕ) (h : headed base heap len hash v ≡ true) (b : bytes ≡ bytes_at base heap v len) where
    pub holds_long : length bytes ≡ length s
    unfolding headed
    holds_long =
        let w = within base (length heap) v (8 + len) (both (reaches base (length heap) v (8 + len)) _ h).0 in
        let ends = w.ends in
        ap length b ∙ length-take-le len (drop (v - base + 8) heap) (rw length-drop (omega arith)) ∙ e

    pub holds_some : (t : Bool) → t ≡ same bytes s → t ≡ holds base heap s hash v
    unfolding holds
    holds_some t q = q ∙ rw (← e, h, b) refl
