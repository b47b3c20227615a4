-- A rating: what is written of an image that is started, has its names interned and is run. Definitions only.
use Rattle.std.specs.Prelude.{ℕ, ◌*◌, List, replicate}
use Rattle.gc.specs.Lent.{page_size}
use Rattle.text.specs.declared.Head.{Head}
use Rattle.text.specs.declared.sections.Section.TheVariants.{Globals}
use Rattle.text.specs.Sections.{section_in}
use Rattle.text.specs.Names.{names_in}
use Rattle.program.specs.Image.{Image}
use Rattle.vm.specs.Machine.{Lent, Machine, Answer, ended, value, done, refused, run, perform, Started, declined, begun}
use Rattle.vm.specs.Told.{lent_of}
use Rattle.image_words.specs.Said.{image_with}
use Rattle.image_names.specs.Named.{Interned, intern_all}
use Rattle.outcome.specs.Outcome.{reply_text, answer_text}

-- the buffers that the header asks for
abbrev pub lent_for : Head → Lent
lent_for h = lent_of (replicate h.frames 0) (replicate (h.pages * page_size) 0) (replicate h.slots 0) (replicate h.slots 0)

-- ---- what is written

-- 'It runs from pc 0' once all names are there
unfoldable pub ready_text : Answer → Image → ℕ → Machine → List ℕ
ready_text done im budget m = answer_text (perform (run im budget) m)
ready_text (refused e) im budget m = reply_text (refused e)
ready_text (value v) im budget m = reply_text (value v)
ready_text (ended e pc steps) im budget m = reply_text (ended e pc steps)

abbrev pub named_text : List ℕ → Head → Interned → List ℕ
named_text s h x = ready_text x.called.answer (image_with x.globals s) h.budget x.called.machine

-- 'An image is loaded or refused before its names are interned'
unfoldable pub started_text : List ℕ → Head → Started → List ℕ
started_text s h (declined e) = reply_text (refused e)
started_text s h (begun m) = named_text s h (intern_all (names_in s) m (section_in Globals s))
