-- `StrTable`: open addressing on the hash with linear probing, 0 for an empty slot. Definitions only.
use Rattle.std.specs.Prelude.{ℕ, zero, suc, ◌+◌, ◌-◌, Bool, true, false, List, length, get_or, set, eqb, Option, Some, None}
use Rattle.std.specs.Int.Bits.{bit_and}
use Rattle.str_table.specs.declared.Probe.{Probe}
use Rattle.str_table.specs.declared.Probe.TheVariants.{Found, Vacant, Full}

-- the slot of a number: the table's length is a power of two
unfoldable pub home : ℕ → ℕ → ℕ
home i n = bit_and i (n - 1)

-- from slot i on, at most so many: the first empty one, or before it the first whose value passes the test
unfoldable pub probe : (ℕ → Bool) → List ℕ → ℕ → ℕ → Probe
probe hit slots zero i = Full
probe hit slots (suc more) i =
    elim (eqb (get_or slots i 0) 0) [
      | true ↦ Vacant i
      | false ↦ elim (hit (get_or slots i 0)) [
        | true ↦ Found (get_or slots i 0)
        | false ↦ probe hit slots more (home (i + 1) (length slots))
      ]
    ]

-- from the hash's own slot on, over the whole table
unfoldable pub lookup : (ℕ → Bool) → List ℕ → ℕ → Probe
lookup hit slots hash = probe hit slots (length slots) (home hash (length slots))

-- the value that probing found
abbrev pub found_value : Probe → Option ℕ
found_value (Found v) = Some v
found_value (Vacant i) = None
found_value Full = None

-- a test that no value passes: what is looked for is an empty slot
unfoldable pub never : ℕ → Bool
never v = false

unfoldable pub filled : ℕ → List ℕ → Probe → List ℕ
filled v slots (Found w) = slots
filled v slots (Vacant i) = set slots i v
filled v slots Full = slots

-- `place`
unfoldable pub placed : ℕ → ℕ → List ℕ → List ℕ
placed hash v slots = filled v slots (lookup never slots hash)
