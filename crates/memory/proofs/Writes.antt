-- One write behind another. Assumes nothing.
use mathlib.Core.Path.{◌≡◌, ◌∙◌}
use Prim.Native.Nat.{ℕ}
use mathlib.Core.List.{List, ◌++◌}
use native.Mathlib.Omega.{arith}
use lib.ListN.{length-append}
use Rattle.memory.specs.Lists.{write, Written}
use Rattle.memory.proofs.Over.{write-append}

pub write-behind : (before mid : List ℕ) (a b : ℕ) (xs ys : List ℕ) → Written before a xs mid b → write b ys mid ≡ write a (xs ++ ys) before
write-behind before mid a b xs ys w = rw (w.is, w.ends) (write-append a xs ys before)

infixl 5 ◌then◌
pub ◌then◌ : {before mid after : List ℕ} {a b c : ℕ} {xs ys : List ℕ} → Written before a xs mid b → Written mid b ys after c
    → Written before a (xs ++ ys) after c
◌then◌ {before} {mid} {after} {a} {b} {c} {xs} {ys} p q =
    record { ends = omega (arith, p.ends, q.ends, length-append xs ys); is = q.is ∙ write-behind before mid a b xs ys p }
