-- The loop of `string::fxhash::hash`. Assumes nothing.
use Prim.Native.Nat.{◌*◌}
use Rattle.string.proofs.Chunks.{Hashing}
use Rattle.string.proofs.fxhash.hash.Given as goal

abbrev pub invariant-loop-chunk : goal.invariant-loop-chunk
invariant-loop-chunk l = Hashing l.bytes l.h (l.chunk-index * 8)
