-- Numbers laid over a buffer one by one, as far as it goes. Assumes nothing.
use Prim.Native.Nat.{ℕ, ◌+◌}
use mathlib.Core.Path.{◌≡◌, refl, ap, ◌∙◌}
use mathlib.Core.List.{List, [], ◌∷◌}
use lib.ListN.{length, set}
use native.Mathlib.Numerals.{add-one}
use native.Mathlib.Omega.{arith}
use Rattle.memory.specs.Lists.{write, Written}
use Rattle.memory.proofs.Over.{sets_write, set-write}

-- of these numbers, to be laid over `before` from the place a on, `left` are still to come, from the place n on
pub record Laying (all before : List ℕ) (a : ℕ) (left buf : List ℕ) (n : ℕ) : Type 0 where
  pub count : n + length left ≡ a + length all
  pub rest : write n left buf ≡ write a all before

pub laying_start : (all before : List ℕ) (a : ℕ) → Laying all before a all before a
laying_start all before a = record { count = refl; rest = refl }

module _ {all before : List ℕ} {a : ℕ} {left buf : List ℕ} {n : ℕ} (g : Laying all before a left buf n) where
  pub laying_next : {v : ℕ} {more : List ℕ} → left ≡ v ∷ more → Laying all before a more (set buf n v) (n + 1)
  laying_next {v} {more} e =
      let step : write n (v ∷ more) buf ≡ write a all before = rw e at g.rest in
      record {
        count = omega (arith, g.count, ap (λ (x : List ℕ). length x) e);
        rest = rw add-one (set-write n v more buf ∙ step);
      }

  pub laying_end : left ≡ [] → Written before a all buf n
  laying_end e =
      let last : write n [] buf ≡ write a all before = rw e at g.rest in
      record { ends = omega (arith, g.count, ap (λ (x : List ℕ). length x) e); is = sets_write [] buf n ∙ last }
