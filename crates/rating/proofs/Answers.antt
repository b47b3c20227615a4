-- What the calls of a rating come to in the runner's text. Assumes nothing.
use mathlib.Core.Path.{◌≡◌, refl, ap, ◌∙◌}
use Prim.Native.Nat.{ℕ, ◌≤◌}
use mathlib.Core.Bool.{true}
use mathlib.Core.List.{List}
use lib.ListN.{length}
use lib.Dec.{leb}
use borrow.Author.Tests.{leb-true}
use Rattle.memory.proofs.Tests.{both}
use Rattle.text.specs.declared.Head.{Head}
use Rattle.text.specs.declared.sections.Section.TheVariants.{Globals}
use Rattle.text.specs.Text.{text_ok}
use Rattle.text.specs.Sections.{section_in}
use Rattle.text.specs.Names.{names_in}
use Rattle.program.specs.Image.{Image}
use Rattle.program.specs.Words.{image_in}
use Rattle.vm.specs.Machine.{Lent, Machine, Answer, done, refused, Called, run, perform, Started, declined, begun, start}
use Rattle.vm.specs.Told.{started_on}
use Rattle.image_words.specs.Said.{image_with}
use Rattle.image_words.specs.Joined.{joined}
use Rattle.image_words.proofs.Joins.{image-joined}
use Rattle.image_names.specs.Named.{intern_all}
use Rattle.report.specs.Report.{refusal_of}
use Rattle.outcome.specs.Outcome.{reply_text, answer_text}
use Rattle.rating.specs.Rated.{ready_text, named_text, started_text}

-- ---- the start

-- of an image's words, in the buffers that the header asks for
pub begun_as : (ws : List ℕ) (im : Image) (base : ℕ) (l lent : Lent) (c : Called) → ws ≡ joined im → l ≡ lent
    → c ≡ started_on (start (image_in ws) base l) base l → c ≡ started_on (start im base lent) base lent
begun_as ws im base l lent c e f h = h ∙ rw (e, f, image-joined im) refl

module _ (s : List ℕ) (h : Head) (base : ℕ) (l : Lent) where
  pub started-refused : (x : Started) (k : ℕ) (m : Machine) → record { answer = refused k; machine = m } ≡ started_on x base l
      → refusal_of k ≡ started_text s h x
  unfolding started_on started_text reply_text
  started-refused (declined e) k m q = let same : refused k ≡ refused e = ap (λ (c : Called). c.answer) q in ap reply_text same
  started-refused (begun n) k m q = cc (ap (λ (c : Called). c.answer) q)

  started-done : (x : Started) (m : Machine) → record { answer = done; machine = m } ≡ started_on x base l
      → named_text s h (intern_all (names_in s) m (section_in Globals s)) ≡ started_text s h x
  unfolding started_on started_text
  started-done (declined e) m q = cc (ap (λ (c : Called). c.answer) q)
  started-done (begun n) m q = let z : m ≡ n = ap (λ (c : Called). c.machine) q in rw z refl

  -- ---- the names, and the run

  module _ (x : Started) (m : Machine) (begins : record { answer = done; machine = m } ≡ started_on x base l) (globals : List ℕ)
      (g : globals ≡ section_in Globals s) (a : Answer) (m' : Machine) (g' : List ℕ)
      (names : record { called = record { answer = a; machine = m' }; globals = g' } ≡ intern_all (names_in s) m globals) where
    ready : ready_text a (image_with g' s) h.budget m' ≡ started_text s h x
    ready =
        ap (named_text s h) (names ∙ ap (λ (y : List ℕ). intern_all (names_in s) m y) g) ∙ started-done x m begins

    pub names-refused : (k : ℕ) → a ≡ refused k → refusal_of k ≡ started_text s h x
    unfolding ready_text reply_text
    names-refused k e = rw e at ready

    pub names-ran : a ≡ done → (im : Image) → im ≡ image_with g' s → (b : ℕ) → b ≡ h.budget → (c : Called) → c ≡ perform (run im b) m'
        → answer_text c ≡ started_text s h x
    unfolding ready_text
    names-ran e im i b n c is = rw (is, i, n) (rw e at ready)

-- ---- the text

pub text_short : (s : List ℕ) → text_ok s ≡ true → length s ≤ 65536
unfolding text_ok
text_short s h = leb-true (length s) 65536 (both (leb (length s) 65536) _ h).0
