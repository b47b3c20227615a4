-- A section gathered line by line. Assumes nothing.
use Prim.Native.Nat.{ℕ, suc, ◌+◌, ◌≤◌}
use mathlib.Core.Path.{◌≡◌, ap, ◌∙◌}
use mathlib.Core.List.{List, [], ◌∷◌, ◌++◌}
use lib.ListN.{length, length-append}
use native.Mathlib.Omega.{arith}
use Rattle.memory.specs.Lists.{over, write, Written}
use Rattle.memory.proofs.Writes.{write-behind}
use Rattle.text.specs.Lines.{lines_in, kind_of, payload_of}
use Rattle.text.specs.Sections.{adds, targets_with, values_with, section_of, section_in}
use Rattle.text.specs.declared.sections.Section.{Section}
use Rattle.text.proofs.Counting.{adds-few, with-few, payload-few}
use Rattle.text.proofs.Laying.{Laying, laying_start, laying_end}
use Rattle.text.proofs.Sizes.{size, size_lines}

-- the lines before `left` have been gathered: they hold n numbers of the section, and their tables so many targets and values
pub record Gathered (s : List ℕ) (section : Section) (before : List ℕ) (left : List (List ℕ)) (targets values : ℕ) (buf : List ℕ) (n : ℕ) : Type 0 where
  pub few-targets : targets + size left ≤ length s
  pub few_values : values + size left ≤ length s
  pub few : n + size left ≤ length s
  pub laid : Laying (section_in section s) before 0 (section_of section targets values left) buf n

pub gather_start : (s : List ℕ) (section : Section) (before : List ℕ) → Gathered s section before (lines_in s) 0 0 before 0
gather_start s section before =
    let most = size_lines s in
    record { few-targets = omega arith; few_values = omega arith; few = omega arith; laid = laying_start _ before 0 }

module _ {s : List ℕ} {section : Section} {before : List ℕ} {left : List (List ℕ)} {targets values : ℕ} {buf : List ℕ} {n : ℕ}
    (g : Gathered s section before left targets values buf n) where
  pub gather_end : left ≡ [] → (n ≡ length (section_in section s)) × (buf ≡ over (section_in section s) before)
  unfolding section_of write
  gather_end e =
      let w : Written before 0 (section_in section s) buf n = laying_end g.laid (rw e) in
      (omega (arith, w.ends), w.is)

  module _ {l : List ℕ} {more : List (List ℕ)} (step : left ≡ l ∷ more) where
    size_step : size left ≡ suc (length l) + size more
    unfolding size
    size_step = rw step

    -- the entries of the tables with the line's
    module _ {t v : ℕ} (has-targets : t ≡ targets_with targets (kind_of l) (payload_of l)) (has-values : v ≡ values_with values (kind_of l) (payload_of l))
        {xs : List ℕ} (line_adds : xs ≡ adds section t v (kind_of l) (payload_of l)) where
      pub numbers_fit : n + length xs ≤ length s
      numbers_fit =
          rw line_adds (omega (arith, adds-few section t v (kind_of l) (payload_of l), payload-few l, size_step, g.few))

      pub gather_next : {after : List ℕ} {r : ℕ} → Written buf n xs after r → Gathered s section before more t v after r
      unfolding section_of
      gather_next {after} {r} w =
          let splits : section_of section targets values left ≡ xs ++ section_of section t v more = rw (step, ← has-targets, ← has-values, ← line_adds) in
          record {
            few-targets = omega (arith, has-targets, (with-few targets (kind_of l) (payload_of l)).0, payload-few l, size_step, g.few-targets);
            few_values = omega (arith, has-values, (with-few values (kind_of l) (payload_of l)).1, payload-few l, size_step, g.few_values);
            few = omega (arith, w.ends, line_long, size_step, g.few);
            laid = record {
              count = omega (arith, w.ends, g.laid.count, ap (λ (x : List ℕ). length x) splits, length-append xs (section_of section t v more));
              rest = write-behind buf after n r xs (section_of section t v more) w ∙ rw splits at g.laid.rest;
            };
          }
        where
          line_long : length xs ≤ length l + 1
          line_long = rw line_adds (omega (arith, adds-few section t v (kind_of l) (payload_of l), payload-few l))
