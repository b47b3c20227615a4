-- Document 01's worked output, and a refusal, in one table, and the one fact, by computation, that all its rows hold. Assumes nothing.
use Rattle.std.specs.Prelude.{◌≡◌, refl, true, List, [], ◌∷◌, ◌++◌, ℕ, replicate}
use Rattle.memory.specs.Lists.{same}
use Rattle.memory.specs.Rows.{hold_lists}
use Rattle.report.specs.Hex.{digit_of_value, hex_of}
use Rattle.report.specs.Report.{end_line, register_line, register_lines, state_line, report_of, refusal_of}
use Rattle.report.specs.declared.Summary.{Summary}

-- so many digits `0`
abbrev zeros : ℕ → List ℕ
zeros n = replicate n 48

-- end 0 at pc 2 after 3 steps; one page of 32 bytes
abbrev worked : ℕ → Summary
worked pushed = record { end = 0; pc = 2; steps = 3; depth = 1; pushed = pushed; len = 32; strings = 0 }

unfoldable pub rows : List (List ℕ × List ℕ)
rows =
    -- the output of the worked image: 00000000000000000200000003, 000000000000000007, 010000000000000006, 00010001000000200000
    (
      report_of (worked 4096) (7 ∷ 6 ∷ replicate 30 0),
      zeros 17 ++ 50 ∷ zeros 7 ++ 51 ∷ 10 ∷
          zeros 17 ++ 55 ∷ 10 ∷
          48 ∷ 49 ∷ zeros 15 ++ 54 ∷ 10 ∷
          zeros 3 ++ 49 ∷ zeros 3 ++ 49 ∷ zeros 6 ++ 50 ∷ zeros 5 ++ 10 ∷ [],
    )
    -- a page of 8,192 bytes counts as two: 00010002000000200000
    ∷ (state_line (worked 8192), zeros 3 ++ 49 ∷ zeros 3 ++ 50 ∷ zeros 6 ++ 50 ∷ zeros 5 ++ 10 ∷ [])
    -- 10 and 19 are 0a and 13
    ∷ (refusal_of 10, 48 ∷ 97 ∷ 10 ∷ [])
    ∷ (refusal_of 19, 49 ∷ 51 ∷ 10 ∷ [])
    ∷ []

pub all_hold : hold_lists rows ≡ true
unfolding rows hold_lists same digit_of_value hex_of end_line register_line register_lines state_line report_of refusal_of
all_hold = refl
