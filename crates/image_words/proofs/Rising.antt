-- The ends of a text's tables, in the machine's words. Assumes nothing.
use mathlib.Core.Path.{◌≡◌, refl}
use Prim.Native.Nat.{ℕ, ◌≤◌}
use mathlib.Core.Bool.{true}
use mathlib.Core.List.{List, [], ◌∷◌}
use lib.ListN.{length}
use borrow.Author.Tests.{le-leb, eq-eqb}
use Rattle.text.specs.declared.sections.Section.TheVariants.{SwitchEnds, SwitchEntries, LookupEnds, LookupEntries}
use Rattle.text.specs.Sections.{section_in}
use Rattle.text.proofs.Tables.{switch_ends_rise, lookup-ends_rise}
use Rattle.program.specs.Image.{rising}

-- they go up to the number of entries: no text is refused for them
rises : ℕ → List ℕ → ℕ → Type 0
rises from ends to = rising from ends to ≡ true

none_rise : (n : ℕ) → rises n [] n
unfolding rises rising
none_rise n = eq-eqb n n refl

more_rise : (from end to : ℕ) (ends : List ℕ) → from ≤ end → rises end ends to → rises from (end ∷ ends) to
unfolding rises rising
more_rise from end to ends h more = rw (le-leb from end h) more

pub ends_rise : (s : List ℕ)
    → (rising 0 (section_in SwitchEnds s) (length (section_in SwitchEntries s)) ≡ true)
    × (rising 0 (section_in LookupEnds s) (length (section_in LookupEntries s)) ≡ true)
unfolding rises
ends_rise s = (switch_ends_rise rises none_rise more_rise s, lookup-ends_rise rises none_rise more_rise s)
