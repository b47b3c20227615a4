-- Document 01, 'Instruction and image': the image runner, from the bytes of an input to those of the output. Definitions only.
use Rattle.std.specs.Prelude.{ℕ, Bool, true, false, cond, ◌&&◌, List, [], ◌∷◌, length, leb}
use Rattle.std.specs.List.{list_all}
use Rattle.text.specs.declared.Head.{Head}
use Rattle.text.specs.declared.sections.Section.{Section}
use Rattle.text.specs.declared.sections.Section.TheVariants.{Code, Globals, SwitchFirsts, SwitchEntries, LookupFirsts, LookupEntries}
use Rattle.text.specs.Text.{text_ok, head_of}
use Rattle.text.specs.Sections.{section_in}
use Rattle.report.specs.Report.{refusal_of}
use Rattle.vm.specs.Machine.{start}
use Rattle.image_words.specs.Said.{image_said}
use Rattle.rating.specs.Rated.{lent_for, started_text}

-- 10: 'The runner: 8 pages, 4,096 words, 4,096 frames'; what else it has no room for is past the machine's own limits
abbrev pub limits : List (Section × ℕ)
limits =
    (Code, 4096)
    ∷ (Globals, 4096)
    ∷ (SwitchFirsts, 256)
    ∷ (SwitchEntries, 4096)
    ∷ (LookupFirsts, 256)
    ∷ (LookupEntries, 4096)
    ∷ []

unfoldable pub sections_fit : List ℕ → Bool
sections_fit s = list_all (λ (l : Section × ℕ). leb (length (section_in l.0 s)) l.1) limits

unfoldable pub room_for : Head → List ℕ → Bool
room_for h s = (leb h.pages 8 && (leb h.frames 4096 && leb h.slots 4096)) && sections_fit s

unfoldable pub image_text : Bool → List ℕ → Head → List ℕ
image_text true s h = started_text s h (start (image_said s) h.base (lent_for h))
image_text false s h = refusal_of 10

-- 'The runner gives 19 first, then the load's numbers, then those of interning'
unfoldable pub answer_of : List ℕ → List ℕ
answer_of s = cond (text_ok s) (image_text (room_for (head_of s) s) s (head_of s)) (refusal_of 19)
