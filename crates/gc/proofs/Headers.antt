-- A block's header as two numbers of 8 bytes. Assumes nothing.
use mathlib.Core.Path.{◌≡◌, refl, sym, ap, ◌∙◌}
use Prim.Native.Nat.{ℕ, ◌/◌, ◌%◌, ◌<◌}
use mathlib.Core.List.{List, ◌∷◌, ◌++◌}
use native.Mathlib.Omega.{arith}
use native.Mathlib.Nat.{zero-add}
use lib.ListN.{length, replicate, length-append}
use Rattle.memory.specs.Bytes.{bytes_of}
use Rattle.memory.specs.Lists.{over, write}
use Rattle.memory.proofs.Over.{write-append}
use Rattle.memory.proofs.Bytes.{length-bytes_of}
use Rattle.gc.specs.Metadata.{header_of}

-- the flags and the padding
flags_padded : (f : ℕ) → f < 256 → bytes_of 8 f ≡ f ∷ replicate 7 0
unfolding bytes_of
flags_padded f h =
    let low : f % 256 ≡ f = omega arith in
    let none : f / 256 ≡ 0 = omega arith in
    rw (low, none) refl

-- two numbers of 8 bytes, one after the other
pub two-written : (x y : ℕ) (to : List ℕ) → write 8 (bytes_of 8 y) (write 0 (bytes_of 8 x) to) ≡ over (bytes_of 8 x ++ bytes_of 8 y) to
unfolding write
two-written x y to =
    ap (λ (k : ℕ). write k (bytes_of 8 y) (write 0 (bytes_of 8 x) to)) (sym (zero-add (length (bytes_of 8 x)) ∙ length-bytes_of 8 x))
    ∙ write-append 0 (bytes_of 8 x) (bytes_of 8 y) to

pub header_written : (size flags w : ℕ) (to : List ℕ) → w ≡ flags → flags < 256
    → write 8 (bytes_of 8 w) (write 0 (bytes_of 8 size) to) ≡ over (header_of size flags) to
unfolding header_of
header_written size flags w to e h =
    two-written size w to ∙ ap (λ (l : List ℕ). over (bytes_of 8 size ++ l) to) (ap (bytes_of 8) e ∙ flags_padded flags h)

pub header_length : (size flags : ℕ) → length (header_of size flags) ≡ 16
unfolding header_of
header_length size flags = rw (length-append, length-bytes_of 8 size) refl
