-- How many lines and numbers a text has at most, by the bytes that it has. Assumes nothing.
use Prim.Native.Nat.{ℕ, suc, ◌+◌, ◌≤◌}
use mathlib.Core.Bool.{Bool, true, false, cond}
use mathlib.Core.List.{List, [], ◌∷◌}
use lib.ListN.{length}
use lib.Dec.{eqb}
use native.Mathlib.Omega.{arith}
use Rattle.text.specs.Lines.{Lines, none, cut, line, before, lines_of, whole, lines_in}

-- lines with their line feeds
unfoldable pub size : List (List ℕ) → ℕ
size [] = 0
size (l ∷ more) = suc (length l) + size more

size-before : (c : ℕ) (t : Lines) → size (whole (before c t)) ≤ suc (size (whole t))
unfolding before whole size
size-before c none = omega arith
size-before c cut = omega arith
size-before c (line l more) = omega arith

pub size_lines : (s : List ℕ) → size (lines_in s) ≤ length s
unfolding lines_of whole size
size_lines [] = omega arith
size_lines (c ∷ s) = either (eqb c 10) (lines_of s) (length s) (size_lines s)
  where
    either : (feed : Bool) (t : Lines) (n : ℕ) → size (whole t) ≤ n → size (whole (cond feed (line [] t) (before c t))) ≤ suc n
    either true t n h = omega arith
    either false t n h = omega (arith, size-before c t)

few_lines : (lines : List (List ℕ)) → length lines ≤ size lines
unfolding size
few_lines [] = omega arith
few_lines (l ∷ more) = omega (arith, few_lines more)

pub lines-few : (s : List ℕ) → length (lines_in s) ≤ length s
lines-few s = omega (arith, few_lines (lines_in s), size_lines s)
