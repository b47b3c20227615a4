-- The loop of `program::loader::words_ok`. Assumes nothing.
use Rattle.std.proofs.Common.{◌≡◌, drop}
use Rattle.program.specs.Image.{word_tests, failing}
use Rattle.program.proofs.loader.words_ok.Given as goal

abbrev pub invariant-loop-w : goal.invariant-loop-w
invariant-loop-w l = failing (word_tests l.n (drop l.w-index l.code)) ≡ failing (word_tests l.n l.code)
