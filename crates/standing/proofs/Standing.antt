-- A machine that a start left, handed back as each call left it, is never refused with 9 or 10, and its runs come to listed ends. Assumes
-- nothing.
use mathlib.Core.Path.{◌≡◌, refl, sym, ◌∙◌}
use Prim.Native.Nat.{ℕ, ◌≤◌}
use mathlib.Core.Bool.{Bool, true, false, true≢false}
use mathlib.Core.Option.{Option, none, some}
use mathlib.Core.List.{[], ◌∷◌}
use native.Mathlib.Omega.{arith}
use lib.ListN.{length}
use Rattle.program.specs.Image.{Image, test, image_tests, failing}
use Rattle.program.proofs.Tests.{failing_later}
use Rattle.vm.specs.Core.{Core, Sizes, used, short, spent, set_memory}
use Rattle.vm.specs.Machine.{Lent, Machine, sizes, reset, put_pc, put_reg, Host, allocate, option, intern, intern_small, Call, run, setting, host}
use Rattle.vm.specs.Machine.{done, refused, hosted, granted, act, tests_by, tests, tried, perform, answers_to, begun, start}
use Rattle.vm.specs.Listed.{RunEnds}
use Rattle.vm.proofs.Fits.{Each, failing_each, short-spent}
use Rattle.vm.proofs.Refusals.{found_on, tests_on, tests_are, image_each}
use Rattle.vm.proofs.Calls.{perform-is, host-is}
use Rattle.vm.proofs.Starting.{start-holds, start-passes}
use Rattle.vm.proofs.Ends.{passed_ends}
use Rattle.vm.proofs.Belongs.{pages_pass, names_pass}
use Rattle.standing.specs.Standing.{words_for, AsLong, Sized, Passes, Stands, Standing}
use Rattle.standing.proofs.Lasting.{Lasts, all_last, first_lasts}

module _ (n : Sizes) (k : ℕ) (m : Machine) (a : Lasts n k m) where
  abbrev c : Core
  c = a.core

  -- ---- which numbers a call is refused with

  granted_not : (e : ℕ) → spent e ≡ false → (s : Host) (o : Option ℕ) → short n (used (set_memory (hosted s c.memory).memory c)) ≡ o
      → (granted o s m (hosted s c.memory)).answer ≡ refused e → ⊥
  unfolding granted
  granted_not e u s none f p = cc
  granted_not e u s (some x) f p = let is : x ≡ e = cc in true≢false (sym (short-spent n _ f) ∙ rw is u)

  -- a call whose tests have passed is refused by running out alone
  act_not : (e : ℕ) → spent e ≡ false → (q : Call) → failing (tests_on q c) ≡ none → (act q m).answer ≡ refused e → ⊥
  unfolding tried
  act_not e u (run im b) f p =
      let ends : RunEnds b (perform (run im b) m).answer = passed_ends im b m (rw (tests_are n (run im b) c m a.holds) f) in
      rw (perform-is n (run im b) c m a.holds, f, p) at ends
  act_not e u (setting s) f p = let q : done ≡ refused e = unfold act in p in cc
  act_not e u (host s) f p = granted_not e u s _ refl (rw (host-is n s c m a.holds) at p)

  by_test : (e : ℕ) → spent e ≡ false → (q : Call) → Each (λ j. j ≡ e → ⊥) (tests_on q c) → (perform q m).answer ≡ refused e → ⊥
  unfolding tried
  by_test e u q each p = by (failing (tests_on q c)) refl (rw (perform-is n q c m a.holds) at p)
    where
      by : (o : Option ℕ) → failing (tests_on q c) ≡ o → (tried o q m).answer ≡ refused e → ⊥
      by none f w = act_not e u q f w
      by (some x) f w = failing_each (λ j. j ≡ e → ⊥) (tests_on q c) x each f cc

  pages_true : (found_on c).pages ≡ true
  pages_true = pages_pass c.memory a.memory

  names_true : (found_on c).names ≡ true
  names_true = rw (pages_pass c.memory a.memory) (names_pass c.memory a.memory)

  -- a test that passes does not refuse
  passing : (e : ℕ) (t : Bool) → t ≡ true → t ≡ false → e ≡ e → ⊥
  passing e t p q r = true≢false (sym p ∙ q)

  not_nine : (q : Call) → AsLong k q → Each (λ j. j ≡ 9 → ⊥) (tests_on q c)
  unfolding tests_on tests_by
  not_nine (run im b) l =
      image_each (λ j. j ≡ 9 → ⊥) (λ j r e. omega arith) true im _ (λ _ e. omega arith) (λ e. omega arith) (λ e. omega arith)
      (passing 9 _ (rw (a.frames (length im.code) l) pages_true), tt)
  not_nine (setting reset) l = (λ _ e. omega arith, tt)
  not_nine (setting (put_pc p)) l = tt
  not_nine (setting (put_reg r v)) l = (λ _ e. omega arith, tt)
  not_nine (host (allocate kind align z)) l = (λ _ e. omega arith, (λ _ e. omega arith, (passing 9 _ pages_true, tt)))
  not_nine (host (option o)) l = (λ _ e. omega arith, (passing 9 _ pages_true, tt))
  not_nine (host (intern s)) l = (λ _ e. omega arith, (passing 9 _ names_true, tt))
  not_nine (host (intern_small z w)) l = (λ _ e. omega arith, (passing 9 _ names_true, (λ _ e. omega arith, tt)))

  not_ten : (q : Call) → Sized q → Each (λ j. j ≡ 10 → ⊥) (tests_on q c)
  unfolding tests_on tests_by
  not_ten (run im b) l =
      image_each (λ j. j ≡ 10 → ⊥) (λ j r e. omega arith) true im _ (passing 10 _ l) (λ e. omega arith) (λ e. omega arith)
      (λ _ e. omega arith, tt)
  not_ten (setting reset) l = (passing 10 _ refl, tt)
  not_ten (setting (put_pc p)) l = tt
  not_ten (setting (put_reg r v)) l = (λ _ e. omega arith, tt)
  not_ten (host (allocate kind align z)) l = (passing 10 _ refl, (λ _ e. omega arith, (λ _ e. omega arith, tt)))
  not_ten (host (option o)) l = (passing 10 _ refl, (λ _ e. omega arith, tt))
  not_ten (host (intern s)) l = (passing 10 _ refl, (λ _ e. omega arith, tt))
  not_ten (host (intern_small z w)) l = (passing 10 _ refl, (λ _ e. omega arith, (λ _ e. omega arith, tt)))

  alone_passes : failing (test true 9 ∷ []) ≡ none
  unfolding failing
  alone_passes = refl

  run-passes : (im : Image) (b : ℕ) → k ≤ length im.code → Passes im → failing (tests (run im b) m.state m.lent) ≡ none
  unfolding tests_on tests_by
  run-passes im b l f =
      rw (tests_are n (run im b) c m a.holds, a.frames (length im.code) l, pages_true)
      (failing_later (image_tests true im) _ f ∙ alone_passes)

  stands : Stands k m
  unfolding spent
  stands = record {
    belongs = λ q l. by_test 9 refl q (not_nine q l);
    sized = λ q l. by_test 10 refl q (not_ten q l);
    ends = λ im b l f. passed_ends im b m (run-passes im b l f);
  }

-- ---- the theorem

pub standing : Standing
unfolding Standing
standing im base l m e calls =
    let room = (start-holds im base l m e).room in
    stands (sizes l) _ _ (all_last (sizes l) room calls 0 m (first_lasts im base l m e))

-- 'A loaded one comes to a listed end within its budget': the image of a start, run on the machine that the start left, with no call between
pub loaded-ends : (im : Image) (base b : ℕ) (l : Lent) (m : Machine) → start im base l ≡ begun m → RunEnds b (perform (run im b) m).answer
unfolding Standing words_for answers_to
loaded-ends im base b l m e = (standing im base l m e []).ends im b (omega arith) (start-passes im base l m e)
