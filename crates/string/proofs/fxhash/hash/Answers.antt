-- `string::fxhash::hash` meets its contract. Assumes nothing.
use mathlib.Core.Path.{ap, sym, ◌∙◌}
use native.Mathlib.Omega.{arith}
use borrow.Author.Tests.{eqb-true, eqb-false}
use Rattle.string.specs.Hash.{folded}
use Rattle.string.proofs.Chunks.{hash_whole, hash_last, hash_end}
use Rattle.string.proofs.fxhash.hash.Goals as goal
use Rattle.string.proofs.fxhash.hash.Goals.{then-not-is_empty, else-not-is_empty}

pub loop-chunk-preserved : goal.loop-chunk-preserved
loop-chunk-preserved c =
    let parts = c.as_chunks.ensures in
    hash_whole _ _ parts.front parts.front_len _ _ c.loop-chunk.invariant _ _ _ c.loop-chunk-test.true c.from_le_bytes.ensures c.mix-h.ensures

pub returns : goal.returns
returns c =
    let parts = c.as_chunks.ensures in
    elim c.if-not-is_empty.branch [
      | then-not-is_empty w ↦ hash_last _ _ parts.front parts.front_len _ _ c.loop-chunk.invariant _ parts.back c.loop-chunk-test.false _ _ _
          (eqb-false _ _ (sym c.is_empty.ensures ∙ w.if-not-is_empty.true)) (omega (arith, parts.back_len))
          w.small_word.ensures w.mix-h-then-not-is_empty.ensures (c.fold.ensures ∙ ap folded w.h-is)
      | else-not-is_empty w ↦ hash_end _ _ parts.front parts.front_len _ _ c.loop-chunk.invariant _ parts.back c.loop-chunk-test.false _
          (eqb-true _ _ (sym c.is_empty.ensures ∙ w.if-not-is_empty.false))
          (c.fold.ensures ∙ ap folded w.h-is)
    ]
