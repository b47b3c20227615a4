-- The number with which an instruction ends a run. Definitions only.
use Rattle.std.specs.Prelude.{ℕ}
use Rattle.anomaly.specs.Table.{number_of_anomaly, number_of_refusal}
use Rattle.effects.specs.declared.Stop.{Stop}
use Rattle.effects.specs.declared.Stop.TheVariants as stop
use Rattle.effects.specs.declared.Effect.{Effect}
use Rattle.effects.specs.declared.Effect.TheVariants as effect

-- the end of a read outside the code, the globals or the tables. No table of ends has it: no run that is not refused comes to it
abbrev pub unlisted : ℕ
unlisted = 255

abbrev pub number_of_stop : Stop → ℕ
number_of_stop (stop.Anomaly why) = number_of_anomaly why
number_of_stop (stop.Refused why) = number_of_refusal why

-- an effect that ends a run by an anomaly, if by a number
abbrev pub IsAnomaly : Stop → Type 0
IsAnomaly (stop.Anomaly why) = Unit {0}
IsAnomaly (stop.Refused why) = ⊥

abbrev pub EndsListed : Effect → Type 0
EndsListed (effect.Set dst v) = Unit {0}
EndsListed effect.Skip = Unit {0}
EndsListed (effect.Goto target) = Unit {0}
EndsListed (effect.Call func) = Unit {0}
EndsListed effect.Ret = Unit {0}
EndsListed (effect.Load dst base offset) = Unit {0}
EndsListed (effect.Store base offset v) = Unit {0}
EndsListed (effect.Alloc kind dst size) = Unit {0}
EndsListed (effect.Stop why) = IsAnomaly why
EndsListed (effect.Unlisted number) = ⊥
EndsListed effect.Halt = Unit {0}
