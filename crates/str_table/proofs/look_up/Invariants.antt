-- The loop of `str_table::look_up`. Assumes nothing.
use Rattle.std.proofs.Common.{◌≡◌, ℕ, ◌<◌, ◌^◌, Bool, length}
use Rattle.str_table.proofs.Probes.{Probing}
use Rattle.str_table.proofs.look_up.Given as goal

abbrev pub invariant-loop-turn : goal.invariant-loop-turn
invariant-loop-turn g l =
    (l.i < length l.slots)
    × ((test : ℕ → Bool) → ((v : ℕ) (r : Bool) → v < 2 ^ 64 → goal.F-post g l.hit v r → r ≡ test v) → Probing test l.slots l.hash l._turn l.i)
