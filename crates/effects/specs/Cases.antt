-- What instructions ask for, worked out by computation. Assumes nothing.
use Rattle.std.specs.Prelude.{◌≡◌, ℕ, ◌-◌, ◌^◌, List, [], ◌∷◌, map, refl}
use Rattle.anomaly.specs.declared.Anomaly.TheVariants.{AssertionFailed}
use Rattle.op.specs.declared.Keys.TheVariants.{Int}
use Rattle.op.specs.declared.Op.{Op}
use Rattle.op.specs.declared.Op.TheVariants as op
use Rattle.program.specs.Image.{Image, tables_of, image_of, start_of, entries_of}
use Rattle.effects.specs.declared.Effect.{Effect}
use Rattle.effects.specs.declared.Effect.TheVariants as effect
use Rattle.effects.specs.declared.Stop.TheVariants as stop
use Rattle.effects.specs.Effect.{jump_if, within, slot, switched, effect_of}

-- r0 to r4; every other register is 0
registers : List ℕ
registers = 2 ∷ 1 ∷ 2 ∷ 10 ∷ 9 ∷ []

-- one global; a table of each kind with the keys 10 and 11, and a second one without entries
image : Image
image =
    image_of [] (70 ∷ []) (tables_of (10 ∷ 10 ∷ []) (2 ∷ 2 ∷ []) (30 ∷ 31 ∷ [])) (tables_of (10 ∷ 10 ∷ []) (2 ∷ 2 ∷ []) (40 ∷ 41 ∷ []))
    (50 ∷ 51 ∷ [])

cases : List (Op × Effect)
cases =
    -- 'BEq compares truth: 2 and 1 are equal'; strings are equal by value
    (op.BEq 5 0 1, effect.Set 5 1) ∷
    (op.SEq 5 0 1, effect.Set 5 0) ∷
    (op.SEq 5 0 2, effect.Set 5 1) ∷
    (op.JmpSEq 0 1 8, effect.Skip) ∷
    (op.JmpSNe 0 1 8, effect.Goto 8) ∷
    (op.ISubI 5 1 2, effect.Set 5 (2 ^ 64 - 1)) ∷
    (op.JmpT 0 8, effect.Goto 8) ∷
    (op.JmpF 0 8, effect.Skip) ∷
    (op.LoadG 5 0, effect.Set 5 70) ∷
    -- a subject among the keys; 'first−1 falls through a `Switch` and takes the default of a `Lookup`; so does an empty table'
    (op.Switch Int 3 0, effect.Goto 30) ∷
    (op.Switch Int 4 0, effect.Skip) ∷
    (op.Switch Int 3 1, effect.Skip) ∷
    (op.Lookup Int 5 3 0, effect.Set 5 40) ∷
    (op.Lookup Int 5 4 0, effect.Set 5 50) ∷
    (op.Lookup Int 5 3 1, effect.Set 5 51) ∷
    (op.Call 8, effect.Call 8) ∷
    (op.Tail 8, effect.Goto 8) ∷
    (op.Assert 6, effect.Stop (stop.Anomaly AssertionFailed)) ∷
    (op.Store 3 16 0, effect.Store 10 16 2) ∷
    (op.Nop, effect.Skip) ∷
    []

asks : map (λ (c : Op × Effect). effect_of image registers c.0) cases ≡ map (λ (c : Op × Effect). c.1) cases
unfolding registers image cases start_of entries_of jump_if within slot switched effect_of
asks = refl
