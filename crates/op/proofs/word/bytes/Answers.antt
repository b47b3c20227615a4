-- `bytes` meets its contract: eight bits are a byte. Assumes nothing.
use Rattle.std.proofs.Common.{◌≡◌, ℕ, zero, suc, ◌*◌, ◌%◌, ◌^◌, ◌<◌, refl, ◌∙◌, arith, mul-suc}
use Rattle.std.proofs.Math.Nat.{mod-eq_of_lt, pow-suc, one-mul}
use Rattle.std.proofs.Math.Pow.{pow-lt}
use Rattle.std.proofs.lemmas.Nat.{pow-add}
use Rattle.op.proofs.word.bytes.Goals as goal

of_bytes : (k : ℕ) → 2 ^ (8 * k) ≡ 256 ^ k
of_bytes zero = refl
of_bytes (suc k) = rw (mul-suc, pow-suc 256 k, ← of_bytes k) (pow-add 2 (8 * k) 8)

in_word : (k : ℕ) → k < 8 → (1 * 2 ^ (8 * k)) % 2 ^ 64 ≡ 256 ^ k
in_word k h = rw one-mul (mod-eq_of_lt (pow-lt {i = 8 * k} {j = 64} (omega arith)) ∙ of_bytes k)

pub returns : goal.returns
returns g c = rw (of_bytes g.row.FROM, in_word g.row.COUNT c.requires.1) refl
