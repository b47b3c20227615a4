-- An image as it is lent, in words: the ends of nine sections, then the sections in a row. Definitions only.
use Rattle.std.specs.Prelude.{ℕ, ◌+◌, ◌-◌, ◌≤◌, ◌≡◌, Bool, false, cond, List, [], ◌∷◌, length, get_or, take, drop}
use Rattle.std.specs.Prelude as std
use Rattle.std.specs.Option.{MatchOption}
use Rattle.program.specs.Image.{Image, tables_of, image_of, rising, image_ok}

-- the words from a up to e
abbrev pub between : ℕ → ℕ → List ℕ → List ℕ
between a e ws = take (e - a) (drop a ws)

-- the section behind the one whose end is word i
abbrev pub behind : ℕ → List ℕ → List ℕ
behind i ws = between (get_or ws i 0) (get_or ws (i + 1) 0) ws

-- code, behind the nine ends; globals; of `Switch` firsts, ends and entries; the same of `Lookup`; defaults
abbrev pub cut : List ℕ → Image
cut ws =
    image_of (between 9 (get_or ws 0 0) ws) (behind 0 ws) (tables_of (behind 1 ws) (behind 2 ws) (behind 3 ws))
    (tables_of (behind 4 ws) (behind 5 ws) (behind 6 ws)) (behind 7 ws)

-- the ends go up, from where the first section starts to the number of words
unfoldable pub fits : List ℕ → Bool
fits ws = rising 9 (take 9 ws) (length ws)

-- what 10 refuses: a default without a table
abbrev pub unfit : Image
unfit = image_of [] [] (tables_of [] [] []) (tables_of [] [] []) (0 ∷ [])

unfoldable pub image_in : List ℕ → Image
image_in ws = cond (fits ws) (cut ws) unfit

-- ---- what a run keeps of words that fit

abbrev pub Ordered : List ℕ → Type 0
Ordered ws =
    (9 ≤ get_or ws 0 0) × (get_or ws 0 0 ≤ get_or ws 1 0) × (get_or ws 1 0 ≤ get_or ws 2 0) × (get_or ws 2 0 ≤ get_or ws 3 0) × (get_or ws 3 0 ≤ get_or ws 4 0)
    × (get_or ws 4 0 ≤ get_or ws 5 0) × (get_or ws 5 0 ≤ get_or ws 6 0) × (get_or ws 6 0 ≤ get_or ws 7 0) × (get_or ws 7 0 ≤ get_or ws 8 0)
    × (get_or ws 8 0 ≤ length ws)

-- the sections that the code cuts, of words that are as many as they may be
abbrev pub Cuts : List ℕ → std.Option Image → Type 0
Cuts ws r = MatchOption r (image_ok (image_in ws) ≡ false) (λ im. im ≡ image_in ws)
