-- `text::names::Named::put_bytes`: its loop. Assumes nothing.
use Rattle.std.proofs.Common.{◌≡◌}
use Rattle.std.specs.Iterator.Adapters.{enumerate_source, enumerate_count}
use Rattle.std.specs.Slice.Iter.{chunks_exact_rest, chunks_exact_size}
use Rattle.text.specs.Names.{bytes_in}
use Rattle.text.proofs.Laying.{Laying}
use Rattle.text.proofs.names.Named.put_bytes.Given as goal

abbrev pub invariant-loop-i : goal.invariant-loop-i
invariant-loop-i l =
    (goal.iterator-loop-i).can_next l.i-iterator × (goal.iterator-loop-i).is_finite l.i-iterator
    × (chunks_exact_size (enumerate_source l.i-iterator) ≡ 2)
    × Laying (bytes_in l.self.digits.now) l.initial.out 0 (bytes_in (chunks_exact_rest (enumerate_source l.i-iterator))) l.out
    (enumerate_count l.i-iterator)
