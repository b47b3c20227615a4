-- The names of a text: how long each is, and where its global stands. Assumes nothing.
use Prim.Native.Nat.{ℕ, suc, ◌+◌, ◌*◌, ◌/◌, ◌<◌, ◌≤◌}
use mathlib.Core.Path.{◌≡◌, refl}
use mathlib.Core.Bool.{Bool, true, false, cond}
use mathlib.Core.List.{List, [], ◌∷◌, ◌++◌}
use lib.ListN.{length, length-append, length-drop}
use lib.Dec.{eqb}
use native.Mathlib.Omega.{arith}
use Rattle.text.specs.Lines.{lines_in, kind_of, payload_of}
use Rattle.text.specs.Sections.{adds, section_of, section_in, targets_with, values_with}
use Rattle.text.specs.Names.{bytes_in, Name, named, names_of, names_in}
use Rattle.text.specs.declared.sections.Section.TheVariants.{Globals}
use Rattle.text.proofs.Entries.{length-numbers}
use Rattle.text.proofs.Naming.{ones}
use Rattle.text.proofs.Sizes.{size, size_lines}

-- a name's global stands among these, and it has at most so many digits
pub record Fits (globals digits : ℕ) (name : Name) : Type 0 where
  pub among : name.global < globals
  pub short : 2 * length name.bytes ≤ digits

abbrev pub AllFit : ℕ → ℕ → List Name → Type 0
AllFit globals digits [] = Unit {0}
AllFit globals digits (x ∷ names) = Fits globals digits x × AllFit globals digits names

weaker : (g h n m : ℕ) → g ≤ h → n ≤ m → (names : List Name) → AllFit g n names → AllFit h m names
weaker g h n m a b [] all = tt
weaker g h n m a b (x ∷ names) all =
    (record { among = omega (arith, all.0.among); short = omega (arith, all.0.short) }, weaker g h n m a b names all.1)

-- a line, and the names of those after it
module _ (g t v t' v' : ℕ) (l : List ℕ) (rest : List ℕ) (later : List Name) where
  abbrev its : List ℕ
  its = adds Globals t' v' (kind_of l) (payload_of l)

  both : length (its ++ rest) ≡ length its + length rest
  both = length-append its rest

  pub as_many : g + length (adds Globals t v (kind_of l) (payload_of l)) + length rest ≤ g + length (its ++ rest)
  as_many = omega (arith, both, ones t' v' (kind_of l) (payload_of l), ones t v (kind_of l) (payload_of l))

  pub name_fits : (n : ℕ) (five : Bool) → eqb (kind_of l) 5 ≡ five → AllFit (g + length (its ++ rest)) (suc (length l) + n) later
      → AllFit (g + length (its ++ rest)) (suc (length l) + n) (cond five (named g (bytes_in (payload_of l)) ∷ []) [] ++ later)
  name_fits n true five all = (
    record {
      among = omega (arith, both, ones t' v' (kind_of l) (payload_of l), rw five at (ones t' v' (kind_of l) (payload_of l)));
      short = omega (arith, length-numbers 2 (length (payload_of l) / 2) (payload_of l), length-drop 2 l);
    },
    all,
  )
  name_fits n false five all = all

-- the names of lines that g globals stand before
pub names_fit : (g t v : ℕ) (lines : List (List ℕ)) → AllFit (g + length (section_of Globals t v lines)) (size lines) (names_of g lines)
unfolding names_of section_of size
names_fit g t v [] = tt
names_fit g t v (l ∷ more) =
    let t' = targets_with t (kind_of l) (payload_of l) in
    let v' = values_with v (kind_of l) (payload_of l) in
    let made = length (adds Globals 0 0 (kind_of l) (payload_of l)) in
    let rest = section_of Globals t' v' more in
    let later = names_of (g + made) more in
    name_fits g 0 0 t' v' l rest later (size more) (eqb (kind_of l) 5) refl
    (weaker (g + made + length rest) (g + length (adds Globals t' v' (kind_of l) (payload_of l) ++ rest)) (size more) (suc (length l) + size more)
    (as_many g 0 0 t' v' l rest later) (omega arith) later (names_fit (g + made) t' v' more))

pub names-fit : (s : List ℕ) → AllFit (length (section_in Globals s)) (length s) (names_in s)
names-fit s =
    weaker (0 + length (section_in Globals s)) (length (section_in Globals s)) (size (lines_in s)) (length s) (omega arith) (size_lines s) (names_in s)
    (names_fit 0 0 0 (lines_in s))
