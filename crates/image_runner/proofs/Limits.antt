-- The test of 10: what fits the runner, over counts, and that a text's counts are what is tested. Assumes nothing.
use mathlib.Core.Path.{◌≡◌}
use Prim.Native.Nat.{ℕ, ◌≤◌}
use mathlib.Core.Bool.{true, ◌&&◌}
use mathlib.Core.List.{List}
use native.Mathlib.Omega.{arith}
use lib.ListN.{length}
use lib.Dec.{leb}
use borrow.Author.Tests.{leb-true}
use Rattle.memory.proofs.Tests.{both}
use Rattle.text.specs.declared.Head.{Head}
use Rattle.text.specs.declared.sections.Section.TheVariants.{Code, Globals, SwitchFirsts, SwitchEntries, LookupFirsts, LookupEntries}
use Rattle.text.specs.Sections.{section_in}
use Rattle.text.proofs.Tables.{switch_ends_firsts, lookup-ends-firsts, lookup-defaults-firsts}
use Rattle.image_words.specs.Joined.{joined}
use Rattle.image_words.specs.Said.{image_said}
use Rattle.image_runner.specs.Runner.{sections_fit, room_for}
use Rattle.image_words.proofs.Joins.{joined-size}

pub record Fits (h : Head) (s : List ℕ) : Type 0 where
  pub pages : h.pages ≤ 8
  pub frames : h.frames ≤ 4096
  pub slots : h.slots ≤ 4096
  pub words_fit : length (section_in Code s) ≤ 4096
  pub globals_fit : length (section_in Globals s) ≤ 4096
  pub switches_fit : length (section_in SwitchFirsts s) ≤ 256
  pub targets_fit : length (section_in SwitchEntries s) ≤ 4096
  pub lookups_fit : length (section_in LookupFirsts s) ≤ 256
  pub values_fit : length (section_in LookupEntries s) ≤ 4096

pub fitting : (h : Head) (s : List ℕ) → room_for h s ≡ true → Fits h s
unfolding room_for sections_fit
fitting h s e =
    let head = both (leb h.pages 8 && (leb h.frames 4096 && leb h.slots 4096)) _ e in
    let pages = both (leb h.pages 8) _ head.0 in
    let rest = both (leb h.frames 4096) _ pages.1 in
    let code = both (leb (length (section_in Code s)) 4096) _ head.1 in
    let globals = both (leb (length (section_in Globals s)) 4096) _ code.1 in
    let switches = both (leb (length (section_in SwitchFirsts s)) 256) _ globals.1 in
    let targets = both (leb (length (section_in SwitchEntries s)) 4096) _ switches.1 in
    let lookups = both (leb (length (section_in LookupFirsts s)) 256) _ targets.1 in
    let values = both (leb (length (section_in LookupEntries s)) 4096) _ lookups.1 in
    record {
      pages = leb-true _ _ pages.0;
      frames = leb-true _ _ rest.0;
      slots = leb-true _ _ rest.1;
      words_fit = leb-true _ _ code.0;
      globals_fit = leb-true _ _ globals.0;
      switches_fit = leb-true _ _ switches.0;
      targets_fit = leb-true _ _ targets.0;
      lookups_fit = leb-true _ _ lookups.0;
      values_fit = leb-true _ _ values.0;
    }

-- and so the words of the image
pub words_room : (h : Head) (s : List ℕ) → Fits h s → length (joined (image_said s)) ≤ 17673
words_room h s f =
    omega (
      arith,
      joined-size (image_said s),
      switch_ends_firsts s,
      lookup-ends-firsts s,
      lookup-defaults-firsts s,
      f.words_fit,
      f.globals_fit,
      f.switches_fit,
      f.targets_fit,
      f.lookups_fit,
      f.values_fit,
    )
