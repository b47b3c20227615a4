-- A string in the heap: its header, its bytes, and what it is compared with. Definitions only.
use Rattle.std.specs.Prelude.{Bool, ◌&&◌, List, ◌++◌, ℕ, ◌+◌, ◌-◌, ◌^◌, length, take, leb, ltb, eqb}
use Rattle.memory.specs.Bytes.{bytes_of, number}
use Rattle.memory.specs.Lists.{same, part}

-- 'header 8 bytes: length then hash, 32 bits each, little-endian'; then the bytes
unfoldable pub payload_of : List ℕ → ℕ → List ℕ
payload_of s hash = bytes_of 4 (length s) ++ (bytes_of 4 hash ++ s)

abbrev pub payload_size : ℕ → ℕ
payload_size len = 8 + len

-- the k bytes at the address v lie in the n pushed bytes, which start at the address base
unfoldable pub reaches : ℕ → ℕ → ℕ → ℕ → Bool
reaches base n v k = leb base v && leb (v - base + k) n

-- the fields of the string at an address
abbrev pub length_at : ℕ → List ℕ → ℕ → ℕ
length_at base heap v = number 4 (v - base) heap

abbrev pub hash_at : ℕ → List ℕ → ℕ → ℕ
hash_at base heap v = number 4 (v - base + 4) heap

abbrev pub bytes_at : ℕ → List ℕ → ℕ → ℕ → List ℕ
bytes_at base heap v len = part (v - base + 8) len heap

-- a string of that length and hash stands at v, wholly in pushed pages: 'a string compare or header read that would leave pushed pages
-- counts as unequal'
unfoldable pub headed : ℕ → List ℕ → ℕ → ℕ → ℕ → Bool
headed base heap len hash v = reaches base (length heap) v (payload_size len) && (eqb (length_at base heap v) len && eqb (hash_at base heap v) hash)

-- 'whole length, hash and bytes equal'
unfoldable pub holds : ℕ → List ℕ → List ℕ → ℕ → ℕ → Bool
holds base heap s hash v = headed base heap (length s) hash v && same (bytes_at base heap v (length s)) s

-- the name that a small word stands for: its lowest bytes, '`small_word` of 0 to 8 bytes is their little-endian value'
abbrev pub small_name : ℕ → ℕ → List ℕ
small_name len word = take len (bytes_of 8 word)

-- 17: 'small string over 8 bytes, or non-zero padding'
unfoldable pub small_ok : ℕ → ℕ → Bool
small_ok n w = leb n 8 && ltb w (256 ^ n)
