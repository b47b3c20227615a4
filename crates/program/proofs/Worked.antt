-- Two tables of a kind, worked out by computation: where the second one's entries begin, which they are, and which ends are refused. Assumes
-- nothing.
use Rattle.std.specs.Prelude.{ℕ, ◌≡◌, refl, true, List, [], ◌∷◌, map}
use Rattle.std.proofs.Math.Option.{Option, none, some}
use Rattle.op.specs.Decode as Op
use Rattle.op.specs.Decode.{decoded_by, decode_of}
use Rattle.op.specs.Reach.{check_of}
use Rattle.program.specs.Image.{Image, tables_of, image_of, start_of, entries_of, counts, rising, tables_ok, image_ok, ends_in_halt, below, word_test}
use Rattle.program.specs.Image.{word_tests, image_tests, failing}

-- five times `Halt`, and of each kind a table with the keys 10 and 11 and one with the keys 20, 21 and 22
image : List ℕ → List ℕ → Image
image switches lookups =
    image_of (59 ∷ 59 ∷ 59 ∷ 59 ∷ 59 ∷ []) [] (tables_of (10 ∷ 20 ∷ []) switches (4 ∷ 3 ∷ 2 ∷ 1 ∷ 0 ∷ []))
    (tables_of (10 ∷ 20 ∷ []) lookups (40 ∷ 41 ∷ 50 ∷ 51 ∷ 52 ∷ [])) (70 ∷ 80 ∷ [])

-- where its tables end
ends : List ℕ
ends = 2 ∷ 5 ∷ []

begins : map (start_of ends) (0 ∷ 1 ∷ []) ≡ 0 ∷ 2 ∷ []
unfolding ends start_of
begins = refl

jumps : map (entries_of (image ends ends).switches) (0 ∷ 1 ∷ []) ≡ (4 ∷ 3 ∷ []) ∷ (2 ∷ 1 ∷ 0 ∷ []) ∷ []
unfolding image ends start_of entries_of
jumps = refl

values : map (entries_of (image ends ends).lookups) (0 ∷ 1 ∷ []) ≡ (40 ∷ 41 ∷ []) ∷ (50 ∷ 51 ∷ 52 ∷ []) ∷ []
unfolding image ends start_of entries_of
values = refl

-- the ends of two tables with five entries in all, and what refuses them
lasts : List (List ℕ × Option ℕ)
lasts =
    (2 ∷ 5 ∷ [], none) ∷
    -- a table without entries
    (5 ∷ 5 ∷ [], none) ∷
    (0 ∷ 5 ∷ [], none) ∷
    -- the second ends before the first
    (5 ∷ 2 ∷ [], some 10) ∷
    -- an entry of no table; a table past the entries
    (2 ∷ 4 ∷ [], some 10) ∷
    (2 ∷ 6 ∷ [], some 10) ∷
    -- as many ends as tables
    (5 ∷ [], some 10) ∷
    (2 ∷ 5 ∷ 5 ∷ [], some 10) ∷
    []

switches-refused : map (λ (c : List ℕ × Option ℕ). failing (image_tests true (image c.0 ends))) lasts
    ≡ map (λ (c : List ℕ × Option ℕ). c.1) lasts
unfolding image ends lasts rising tables_ok image_ok ends_in_halt below counts Op.rows decoded_by decode_of check_of word_test word_tests image_tests
    failing
switches-refused = refl

lookups-refused : map (λ (c : List ℕ × Option ℕ). failing (image_tests true (image ends c.0))) lasts
    ≡ map (λ (c : List ℕ × Option ℕ). c.1) lasts
unfolding image ends lasts rising tables_ok image_ok ends_in_halt below counts Op.rows decoded_by decode_of check_of word_test word_tests image_tests
    failing
lookups-refused = refl
