-- Names interned one after the other: what is left from here is what the whole list was. Assumes nothing.
use mathlib.Core.Path.{◌≡◌, refl, sym, ap, subst, ◌∙◌}
use Prim.Native.Nat.{ℕ, ◌≤◌}
use mathlib.Core.List.{List, [], ◌∷◌}
use native.Mathlib.Omega.{arith}
use lib.ListN.{length, take, set, length-set}
use Rattle.memory.specs.Lists.{over}
use Rattle.memory.proofs.Over.{take-over}
use Rattle.text.specs.declared.sections.Section.TheVariants.{Globals}
use Rattle.text.specs.Sections.{section_in}
use Rattle.text.specs.Names.{Name, named, names_in}
use Rattle.text.proofs.Listing.{AllFit, names-fit}
use Rattle.vm.specs.Machine.{Lent, Machine, Answer, value, done, refused, Called, host, intern, perform}
use Rattle.image_names.specs.Named.{intern_on, intern_all}

-- where the loop has come to: these names are left
pub record Interning (s : List ℕ) (m₀ : Lent → Machine) (g₀ : List ℕ) (left : List Name) (m : Lent → Machine) (g : List ℕ) : Type 0 where
  pub same : (l : Lent) → intern_all left (m l) g ≡ intern_all (names_in s) (m₀ l) g₀
  pub fit : AllFit (length (section_in Globals s)) (length s) left
  pub long : length g ≡ length g₀

pub interning_first : (s : List ℕ) (m : Lent → Machine) (g : List ℕ) → Interning s m g (names_in s) m g
interning_first s m g = record { same = λ l. refl; fit = names-fit s; long = refl }

module _ {s : List ℕ} {m₀ : Lent → Machine} {g₀ : List ℕ} {left : List Name} {m : Lent → Machine} {g : List ℕ} (e : Interning s m₀ g₀ left m g) where
  pub interned_all : left ≡ [] → (l : Lent) → record { called = record { answer = done; machine = m l }; globals = g } ≡ intern_all (names_in s) (m₀ l) g₀
  unfolding intern_all
  interned_all q l = rw q at (e.same l)

  -- the next name
  module _ {global : ℕ} {bytes : List ℕ} {more : List Name} (step : left ≡ named global bytes ∷ more) where
    fits : AllFit (length (section_in Globals s)) (length s) (named global bytes ∷ more)
    fits = rw step at e.fit

    module _ (short : length s ≤ 65536) (name : List ℕ) {name' : List ℕ} {len : ℕ} (room : 32768 ≤ length name)
        (count : len ≡ length bytes) (laid : name' ≡ over bytes name) where
      within : length bytes ≤ length name
      within = omega (arith, fits.0.short)

      pub bytes_back : take len name' ≡ bytes
      bytes_back = rw (laid, count) (take-over bytes name within)

    -- the call of this name
    abbrev its : Lent → Called
    its l = perform (host (intern bytes)) (m l)

    turn : (l : Lent) → intern_on (its l).answer (its l) g global (intern_all more) ≡ intern_all (names_in s) (m₀ l) g₀
    unfolding intern_all
    turn l = rw step at (e.same l)

    answered : (l : Lent) {a : Answer} → (its l).answer ≡ a
        → intern_on a (its l) g global (intern_all more) ≡ intern_all (names_in s) (m₀ l) g₀
    answered l p = subst (λ (a : Answer). intern_on a (its l) g global (intern_all more) ≡ intern_all (names_in s) (m₀ l) g₀) p (turn l)

    value_on : (l : Lent) (v : ℕ) → (its l).answer ≡ value v
        → intern_all more (its l).machine (set g global v) ≡ intern_all (names_in s) (m₀ l) g₀
    unfolding intern_on
    value_on l v p = answered l p

    refused_on : (l : Lent) (k : ℕ) → (its l).answer ≡ refused k
        → record { called = its l; globals = g } ≡ intern_all (names_in s) (m₀ l) g₀
    unfolding intern_on
    refused_on l k p = answered l p

    -- the call as it was made, of bytes that are the name's
    module _ {b : List ℕ} (back : b ≡ bytes) where
      abbrev call : Lent → Called
      call l = perform (host (intern b)) (m l)

      call-is : (l : Lent) → call l ≡ its l
      call-is l = ap (λ (x : List ℕ). perform (host (intern x)) (m l)) back

      value_by : (l : Lent) (v : ℕ) (m' : Machine) → record { answer = value v; machine = m' } ≡ call l
          → intern_all more m' (set g global v) ≡ intern_all (names_in s) (m₀ l) g₀
      value_by l v m' c =
          let is : record { answer = value v; machine = m' } ≡ its l = c ∙ call-is l in
          ap (λ (x : Machine). intern_all more x (set g global v)) (ap (λ (x : Called). x.machine) is)
          ∙ value_on l v (sym (ap (λ (x : Called). x.answer) is))

      pub interning_next : (v : ℕ) (m' : Lent → Machine)
          → ((l : Lent) → record { answer = value v; machine = m' l } ≡ call l) → Interning s m₀ g₀ more m' (set g global v)
      interning_next v m' c =
          record {
            same = λ l. value_by l v (m' l) (c l);
            fit = fits.1;
            long = length-set g global v ∙ e.long;
          }

      pub interned_some : (k : ℕ) (m' : Lent → Machine) → ((l : Lent) → record { answer = refused k; machine = m' l } ≡ call l)
          → (l : Lent) → record { called = record { answer = refused k; machine = m' l }; globals = g } ≡ intern_all (names_in s) (m₀ l) g₀
      interned_some k m' c l =
          let is : record { answer = refused k; machine = m' l } ≡ its l = c l ∙ call-is l in
          ap (λ (y : Called). record { called = y; globals = g }) is ∙ refused_on l k (sym (ap (λ (y : Called). y.answer) is))
