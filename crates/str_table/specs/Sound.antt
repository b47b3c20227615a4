-- What a sound table is: the clauses of 9 that speak of it. Definitions only.
use Rattle.std.specs.Prelude.{ℕ, ◌+◌, ◌*◌, Bool, true, cond, ◌&&◌, ◌||◌, List, [], ◌∷◌, length, take, leb, eqb}
use Rattle.str_table.specs.declared.StrTable.{StrTable}
use Rattle.string.specs.Payload.{reaches}

-- 'a power of two, 64–4,096'
unfoldable pub slot_count : ℕ → Bool
slot_count n = eqb n 64 || (eqb n 128 || (eqb n 256 || (eqb n 512 || (eqb n 1024 || (eqb n 2048 || eqb n 4096)))))

-- 'active slots neither 0 nor a power of two of 64 or more within those lent'
unfoldable pub active_ok : ℕ → ℕ → Bool
active_ok active lent = leb active lent && (eqb active 0 || slot_count active)

-- how many slots are filled
unfoldable pub filled_in : List ℕ → ℕ
filled_in [] = 0
filled_in (v ∷ slots) = cond (eqb v 0) 0 1 + filled_in slots

-- 'a filled slot whose header isn't in pushed pages', of which there are n bytes
unfoldable pub headers_in : ℕ → ℕ → List ℕ → Bool
headers_in base n [] = true
headers_in base n (v ∷ slots) = (eqb v 0 || reaches base n v 8) && headers_in base n slots

-- 'the stored count unequal to the filled slots, or doubled above them'
unfoldable pub count_ok : ℕ → List ℕ → Bool
count_ok len slots = eqb (filled_in slots) len && leb (len * 2) (length slots)

unfoldable pub slots_ok : ℕ → ℕ → ℕ → List ℕ → Bool
slots_ok base n len slots = headers_in base n slots && count_ok len slots

-- over the lent slots
unfoldable pub sound_of : ℕ → ℕ → StrTable → List ℕ → Bool
sound_of base n t slots = active_ok t.active (length slots) && slots_ok base n t.len (take t.active slots)
