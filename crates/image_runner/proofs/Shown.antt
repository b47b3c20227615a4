-- Demand 1 of an image's text: the runner prints the number of a refusal of the table, alone, or the report of a listed end within the budget.
-- The cases of its definition that print nothing are not reached. Assumes nothing.
use mathlib.Core.Path.{◌≡◌, refl}
use Prim.Native.Nat.{ℕ}
use mathlib.Core.Bool.{Bool, true, false}
use mathlib.Core.List.{List, [], ◌∷◌}
use mathlib.Core.Logic.{inl, inr}
use Rattle.anomaly.specs.Table.{is_refusal}
use Rattle.text.specs.declared.Head.{Head}
use Rattle.text.specs.Text.{text_ok, head_of}
use Rattle.text.specs.Names.{Name, names_in}
use Rattle.text.specs.Sections.{section_in}
use Rattle.report.specs.Report.{refusal_of}
use Rattle.program.specs.Image.{Image}
use Rattle.vm.specs.declared.State.{State}
use Rattle.vm.specs.Machine.{Machine, host, intern, Answer, ended, value, done, refused, Called, perform, Started, declined, begun}
use Rattle.vm.specs.Listed.{RunAnswer, SettingAnswer, HostAnswer, StartAnswer}
use Rattle.vm.proofs.Ends.{run-answers, start-answers}
use Rattle.vm.proofs.Answered.{host-answers}
use Rattle.image_words.specs.Said.{image_said}
use Rattle.image_names.specs.Named.{Interned, intern_on, intern_all}
use Rattle.outcome.specs.Outcome.{reply_text, run_text}
use Rattle.rating.specs.Rated.{lent_for, ready_text, started_text}
use Rattle.image_runner.specs.Runner.{room_for, image_text, answer_of}
use Rattle.image_runner.specs.Shown.{Refuses, Shown}

refuses : (e : ℕ) → is_refusal e ≡ true → Refuses (refusal_of e)
refuses e h = record { number = e; listed = h; says = refl }

-- interning the names answers that it is done, or a refusal
intern_case : (a : Answer) (c : Called) (g : List ℕ) (global : ℕ) (rest : Machine → List ℕ → Interned) → c.answer ≡ a → HostAnswer a
    → ((m : Machine) (g : List ℕ) → SettingAnswer (rest m g).called.answer) → SettingAnswer (intern_on a c g global rest).called.answer
unfolding intern_on
intern_case (value v) c g global rest e h ih = ih _ _
intern_case (refused n) c g global rest e h ih = rw e h
intern_case done c g global rest e h ih = absurd h
intern_case (ended n pc steps) c g global rest e h ih = absurd h

names-answer : (names : List Name) (m : Machine) (g : List ℕ) → SettingAnswer (intern_all names m g).called.answer
unfolding intern_all
names-answer [] m g = tt
names-answer (name ∷ names) m g =
    let c = perform (host (intern name.bytes)) m in
    intern_case _ c g name.global (intern_all names) refl (host-answers (intern name.bytes) m) (names-answer names)

run-shown : (b : ℕ) (a : Answer) (s : State) → RunAnswer b a → Shown b (run_text a s)
unfolding run_text
run-shown b (ended e pc steps) s h = inr (record { end = e; pc = pc; steps = steps; state = s; listed = h; says = refl })
run-shown b (refused e) s h = inl (refuses e h)
run-shown b (value v) s h = absurd h
run-shown b done s h = absurd h

names-shown : (im : Image) (b : ℕ) (m : Machine) (a : Answer) → SettingAnswer a → Shown b (ready_text a im b m)
unfolding ready_text reply_text
names-shown im b m done n = run-shown b _ _ (run-answers im b m)
names-shown im b m (refused e) n = inl (refuses e n)
names-shown im b m (value v) n = absurd n
names-shown im b m (ended e pc steps) n = absurd n

start-shown : (s : List ℕ) (h : Head) (x : Started) → StartAnswer x → Shown h.budget (started_text s h x)
unfolding started_text reply_text
start-shown s h (declined e) n = inl (refuses e n)
start-shown s h (begun m) n = names-shown _ h.budget _ _ (names-answer (names_in s) m (section_in _ s))

-- any input: its text is refused by a number, or comes to a listed end within the budget that its header says
pub answer-shown : (s : List ℕ) → Shown (head_of s).budget (answer_of s)
unfolding answer_of image_text
answer-shown s = by (text_ok s) (room_for (head_of s) s) refl refl
  where
    by : (t r : Bool) → text_ok s ≡ t → room_for (head_of s) s ≡ r → Shown (head_of s).budget (answer_of s)
    by true true e f = simp (e, f) (start-shown s (head_of s) _ (start-answers (image_said s) (head_of s).base (lent_for (head_of s))))
    by true false e f = simp (e, f) (inl (refuses _ refl))
    by false true e f = simp (e, f) (inl (refuses _ refl))
    by false false e f = simp (e, f) (inl (refuses _ refl))
