-- An image whose tests have passed, and what holds of the frames in use. Definitions only.
use Rattle.std.specs.Prelude.{ℕ, ◌+◌, ◌-◌, ◌%◌, ◌^◌, ◌≤◌, ◌<◌, true, ◌≡◌, List, [], ◌∷◌, length, get_or, Ok}
use Rattle.op.specs.Reach.{check_of}
use Rattle.program.specs.Image.{Image, counts, below, tables_ok}

-- a return leads into code of n words
abbrev pub Returns : ℕ → List ℕ → Type 0
Returns n [] = Unit {0}
Returns n (f ∷ fs) = ((f + 1) % 2 ^ 64 < n) × Returns n fs

-- an image whose tests have passed
pub record Checks (im : Image) : Type 0 where
  pub targets : below (length im.code) im.switches.entries ≡ true
  pub words : (i : ℕ) → i < length im.code → check_of (counts im) (get_or im.code i 0) ≡ Ok tt
  pub ends : get_or im.code (length im.code - 1) 0 % 256 ≡ 59

pub record Loaded (im : Image) : Type 0 where
  pub size : length im.code ≤ 65536
  pub switches : tables_ok im.switches ≡ true
  pub lookups : tables_ok im.lookups ≡ true
  pub defaults : length im.defaults ≡ length im.lookups.firsts
  pub checks : Checks im
