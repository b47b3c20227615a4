-- Tests that answer by a Result: what they say of the tests of a call. Assumes nothing.
use mathlib.Core.Path.{◌≡◌, refl}
use Prim.Native.Nat.{ℕ}
use native.Mathlib.Omega.{arith}
use mathlib.Core.Bool.{Bool, true, false, ◌&&◌}
use mathlib.Core.Option.{some}
use mathlib.Core.List.{[], ◌∷◌}
use lib.Dec.{ltb}
use borrow.Author.Tests.{lt-ltb, le-ltb}
use Rattle.std.specs.Prelude as std
use Rattle.std.specs.Prelude.{Result, Ok, Err, ok_or}
use Rattle.std.specs.Bool.{then_some}
use Rattle.std.specs.Result.{result_or}
use Rattle.anomaly.specs.declared.Refusal.{Refusal}
use Rattle.anomaly.specs.Table.{number_of_refusal}
use Rattle.gc.specs.declared.AllocType.{AllocType}
use Rattle.gc.specs.declared.UnknownType.{UnknownType}
use Rattle.gc.specs.Metadata.{IsTypeOf}
use Rattle.gc.proofs.Types.{bits-low}
use Rattle.program.specs.Image.{refused_with, test, failing}

pub by_test : (b : Bool) (why : Refusal) → refused_with (ok_or (then_some b (tt {0})) why) ≡ failing (test b (number_of_refusal why) ∷ [])
unfolding failing
by_test true why = refl
by_test false why = refl

pub not_aligned : (kind : ℕ) (e : ℕ) → some e ≡ failing (test (ltb kind 4 && false) e ∷ [])
unfolding failing
not_aligned kind e = by (ltb kind 4)
  where
    by : (b : Bool) → some e ≡ failing (test (b && false) e ∷ [])
    by true = refl
    by false = refl

pub by_kind : (kind : ℕ) (r : Result AllocType UnknownType) (why : Refusal) → IsTypeOf kind r
    → refused_with (result_or r (Err why)) ≡ failing (test (ltb kind 4 && true) (number_of_refusal why) ∷ [])
unfolding failing
by_kind kind (Ok k) why t = let low = bits-low k in rw (lt-ltb kind 4 (omega arith)) refl
by_kind kind (Err e) why t = rw (le-ltb kind 4 t.1) refl

-- nothing was there
pub none_why : (o : std.Option ℕ) (why e : Refusal) → ◌≡◌ {A = Result ℕ Refusal} (Err e) (ok_or o why) → e ≡ why
none_why std.None why e q = cc
none_why (std.Some x) why e q = cc
