-- An image as the words that are lent: the ends of its nine sections, then the sections one behind the other. Definitions only.
use Rattle.std.specs.Prelude.{ℕ, ◌+◌, List, [], ◌∷◌, ◌++◌, length}
use Rattle.program.specs.Image.{Image}

-- where each list ends, if the first starts at a
unfoldable pub ends : ℕ → List (List ℕ) → List ℕ
ends a [] = []
ends a (s ∷ ss) = (a + length s) ∷ ends (a + length s) ss

unfoldable pub flat : List (List ℕ) → List ℕ
flat [] = []
flat (s ∷ ss) = s ++ flat ss

abbrev pub sections_of : Image → List (List ℕ)
sections_of im =
    im.code ∷ im.globals
    ∷ im.switches.firsts ∷ im.switches.ends ∷ im.switches.entries
    ∷ im.lookups.firsts ∷ im.lookups.ends ∷ im.lookups.entries ∷ im.defaults ∷ []

unfoldable pub joined : Image → List ℕ
joined im = ends 9 (sections_of im) ++ flat (sections_of im)
