-- A table of worked cases: what a definition gives, and what the papers say. Definitions only.
use Rattle.std.specs.Prelude.{Bool, true, ◌&&◌, List, [], ◌∷◌, ℕ, eqb}
use Rattle.memory.specs.Lists.{same}

-- each row's two numbers are equal
unfoldable pub hold : List (ℕ × ℕ) → Bool
hold [] = true
hold (row ∷ rest) = eqb row.0 row.1 && hold rest

-- each row's two lists are the same
unfoldable pub hold_lists : List (List ℕ × List ℕ) → Bool
hold_lists [] = true
hold_lists (row ∷ rest) = same row.0 row.1 && hold_lists rest
