-- `string::fxhash::mix` meets its contract. Assumes nothing.
use mathlib.Core.Path.{ap, ◌∙◌}
use Prim.Native.Nat.{ℕ, ◌*◌, ◌%◌, ◌^◌}
use native.Mathlib.Omega.{arith}
use lib.Bits.{bit_xor}
use Rattle.string.specs.Hash.{mixed, multiplier}
use Rattle.string.proofs.Small.{rotates}
use Rattle.string.proofs.fxhash.mix.Goals as goal

pub returns : goal.returns
unfolding mixed
returns c =
    c.wrapping_mul.ensures
    ∙ ap (λ (x : ℕ). bit_xor x c.args.chunk * multiplier % 2 ^ 64) (c.rotate_left.ensures ∙ rotates c.args.h (omega arith))
