-- The image that a text says. Definitions only.
use Rattle.std.specs.Prelude.{ℕ, List}
use Rattle.text.specs.declared.sections.Section.TheVariants.{Code, Globals, SwitchFirsts, SwitchEnds, SwitchEntries, LookupFirsts}
use Rattle.text.specs.declared.sections.Section.TheVariants.{LookupDefaults, LookupEnds, LookupEntries}
use Rattle.text.specs.Sections.{section_in}
use Rattle.program.specs.Image.{Image, tables_of, image_of}

-- with these globals: a name's is 0 until it is interned
abbrev pub image_with : List ℕ → List ℕ → Image
image_with globals s =
    image_of (section_in Code s) globals (tables_of (section_in SwitchFirsts s) (section_in SwitchEnds s) (section_in SwitchEntries s))
    (tables_of (section_in LookupFirsts s) (section_in LookupEnds s) (section_in LookupEntries s)) (section_in LookupDefaults s)

abbrev pub image_said : List ℕ → Image
image_said s = image_with (section_in Globals s) s
