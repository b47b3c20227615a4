-- The type with a number. Assumes nothing.
use mathlib.Core.Path.{◌≡◌, refl}
use Prim.Native.Nat.{ℕ, ◌≤◌, ◌<◌}
use native.Mathlib.Omega.{arith}
use Rattle.std.specs.Prelude.{Result, Ok, Err, IsOk, IsErr}
use Rattle.gc.specs.declared.AllocType.{AllocType}
use Rattle.gc.specs.declared.AllocType.TheVariants.{Record, Array, Option, String}
use Rattle.gc.specs.declared.UnknownType.{UnknownType}
use Rattle.gc.specs.Metadata.{bits_of, IsTypeOf}

pub bits-low : (kind : AllocType) → bits_of kind < 4
bits-low Record = omega arith
bits-low Array = omega arith
bits-low Option = omega arith
bits-low String = omega arith

-- a number below 4 has a type, and another one has none
pub type_found : (n : ℕ) (r : Result AllocType UnknownType) → n < 4 → IsTypeOf n r → IsOk r
type_found n (Ok kind) h t = refl
type_found n (Err e) h t = absurd (omega arith)

pub none_found : (n : ℕ) (r : Result AllocType UnknownType) → 4 ≤ n → IsTypeOf n r → IsErr r
none_found n (Ok kind) h t = let low = bits-low kind in absurd (omega arith)
none_found n (Err e) h t = refl

-- what an answer says of the number
pub ok_said : (n : ℕ) (r : Result AllocType UnknownType) (kind : AllocType) → r ≡ Ok kind → IsTypeOf n r → (bits_of kind ≡ n) × (n < 4)
ok_said n (Ok k) kind e t = let same : k ≡ kind = cc in (rw (← same) t, let low = bits-low k in omega arith)
ok_said n (Err d) kind e t = cc
