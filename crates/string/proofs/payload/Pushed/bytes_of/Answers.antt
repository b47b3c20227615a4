-- `string::payload::Pushed::bytes_of` meets its contract. Assumes nothing.
use mathlib.Core.Path.{◌≡◌, refl}
use Prim.Native.Nat.{◌+◌, ◌-◌}
use native.Mathlib.Omega.{arith}
use lib.ListN.{length}
use Rattle.string.proofs.Strings.{Within, header_found, no_header, other_length, other_hash, cut_short, stands}
use Rattle.string.proofs.payload.Pushed.bytes_of.Goals as goal
use Rattle.string.proofs.payload.Pushed.bytes_of.Goals.{Else-not-has_header}

-- what the test of the header says of all that comes after it
abbrev Header : Else-not-has_header → Type 0
Header c = let heap = c.args.self in Within heap.base (length heap.bytes.now) c.args.v 8

header : (c : Else-not-has_header) → Header c
header c = header_found _ _ _ _ (rw (c.extent.ensures.0, c.extent.ensures.1) at c.has_header.ensures) c.if-not-has_header.false

pub returns-then-not-has_header : goal.returns-then-not-has_header
returns-then-not-has_header c = no_header _ _ _ _ _ _ (rw (c.extent.ensures.0, c.extent.ensures.1) at c.has_header.ensures) c.if-not-has_header.true

pub overflow_sub-at : goal.overflow_sub-at
overflow_sub-at c = omega (arith, header (goal.at.overflow_sub-at c).Else-not-has_header)

pub load-requires-clause-room : goal.load-requires-clause-room
load-requires-clause-room c = omega (arith, header (goal.at.load-requires-clause-room c).Else-not-has_header)

pub returns-then-load-len : goal.returns-then-load-len
returns-then-load-len c =
    other_length _ _ _ _ _ (header (goal.at.returns-then-load-len c).Else-not-has_header) _ c.load.ensures.value c.if-load-len.true

pub overflow_add-at : goal.overflow_add-at
overflow_add-at c = omega (arith, header (goal.at.overflow_add-at c).Else-not-has_header)

pub load-requires-2-clause-room : goal.load-requires-2-clause-room
load-requires-2-clause-room c = omega (arith, header (goal.at.load-requires-2-clause-room c).Else-not-has_header)

pub returns-then-load-from : goal.returns-then-load-from
returns-then-load-from c =
    other_hash _ _ _ _ _ (header (goal.at.returns-then-load-from c).Else-not-has_header) _ _ c.load-2.ensures.value c.from.ensures c.if-load-from.true

pub overflow_add-from : goal.overflow_add-from
overflow_add-from c = omega (arith, header (goal.at.overflow_add-from c).Else-not-has_header)

pub overflow_sub-bytes : goal.overflow_sub-bytes
overflow_sub-bytes c = omega (arith, header (goal.at.overflow_sub-bytes c).Else-not-has_header)

pub returns-then-bytes-from : goal.returns-then-bytes-from
returns-then-bytes-from c = cut_short _ _ _ _ _ (header (goal.at.returns-then-bytes-from c).Else-not-has_header) c.if-bytes-from.true

pub overflow_add-result : goal.overflow_add-result
overflow_add-result c = record { fits = omega (arith, header (goal.at.overflow_add-result c).Else-not-has_header) }

pub slice_bounds-result-end : goal.slice_bounds-result-end
slice_bounds-result-end c = omega (arith, header (goal.at.slice_bounds-result-end c).Else-not-has_header)

pub returns : goal.returns
returns c = (
  stands _ _ _ _ _ (header (goal.at.returns c).Else-not-has_header) _ _ _ c.load.ensures.value c.if-load-len.false c.load-2.ensures.value
      c.if-load-from.false c.from.ensures c.if-bytes-from.false,
  let n : c.args.v - c.args.self.base + 8 + c.args.len - (c.args.v - c.args.self.base + 8) ≡ c.args.len = omega arith in
      rw n refl,
)
