-- A block's header, `Metadata`: 16 bytes before the payload. Definitions only.
use Rattle.std.specs.Prelude.{◌≡◌, ℕ, ◌+◌, ◌≤◌, Bool, true, false, List, ◌∷◌, ◌++◌, replicate, MatchResult}
use Rattle.memory.specs.Bytes.{bytes_of}
use Rattle.gc.specs.declared.AllocType.{AllocType}
use Rattle.gc.specs.declared.AllocType.TheVariants.{Record, Array, Option, String}
use Rattle.gc.specs.declared.UnknownType.{UnknownType}
use Rattle.std.specs.Prelude.{Result}

-- 'for `Alloc` Record 0, Array 1, Option 2, String 3'
abbrev pub bits_of : AllocType → ℕ
bits_of Record = 0
bits_of Array = 1
bits_of Option = 2
bits_of String = 3

-- the type with this number, or the number, which no type has
abbrev pub IsTypeOf : ℕ → Result AllocType UnknownType → Type 0
IsTypeOf n r = MatchResult r (λ kind. bits_of kind ≡ n) (λ e. (e.0 ≡ n) × (4 ≤ n))

-- the type in the three lowest bits, and above them `MARKED_FLAG` of gc.rs
abbrev pub flags_of : AllocType → Bool → ℕ
flags_of t true = bits_of t + 8
flags_of t false = bits_of t

-- '`Metadata` is 16 bytes: size (8), flags (1), 7 of padding, zero here'
unfoldable pub header_of : ℕ → ℕ → List ℕ
header_of size flags = bytes_of 8 size ++ (flags ∷ replicate 7 0)
