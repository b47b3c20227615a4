-- What a start and each call may answer: the listed ends and refusals. Definitions only.
use Rattle.std.specs.Prelude.{◌≡◌, ℕ, ◌≤◌, true, ◌||◌, eqb}
use Rattle.anomaly.specs.Table.{is_anomaly, is_refusal}
use Rattle.vm.specs.Machine.{Call, run, setting, host, Answer, ended, value, done, refused, Started, declined, begun}

-- an end with these steps under the budget b: 0, 5 or an anomaly's, and 5 only when the budget is completed
pub record Listed (b e steps : ℕ) : Type 0 where
  pub number : ((eqb e 0 || eqb e 5) || is_anomaly e) ≡ true
  pub within : steps ≤ b
  pub spends : e ≡ 5 → steps ≡ b

-- the answer of a run that is not refused, under the budget b
abbrev pub RunEnds : ℕ → Answer → Type 0
RunEnds b (ended e pc steps) = Listed b e steps
RunEnds b (value v) = ⊥
RunEnds b done = ⊥
RunEnds b (refused e) = ⊥

-- the answer of a run under the budget b
abbrev pub RunAnswer : ℕ → Answer → Type 0
RunAnswer b (ended e pc steps) = Listed b e steps
RunAnswer b (value v) = ⊥
RunAnswer b done = ⊥
RunAnswer b (refused e) = is_refusal e ≡ true

-- the answer of a call that sets: done, or refused by a number of the table
abbrev pub SettingAnswer : Answer → Type 0
SettingAnswer done = Unit {0}
SettingAnswer (refused e) = is_refusal e ≡ true
SettingAnswer (ended e pc steps) = ⊥
SettingAnswer (value v) = ⊥

-- the answer of a call that allocates: a value, or as above
abbrev pub HostAnswer : Answer → Type 0
HostAnswer (value v) = Unit {0}
HostAnswer (refused e) = is_refusal e ≡ true
HostAnswer (ended e pc steps) = ⊥
HostAnswer done = ⊥

-- the answer of a call
abbrev pub CallAnswer : Call → Answer → Type 0
CallAnswer (run im b) a = RunAnswer b a
CallAnswer (setting k) a = SettingAnswer a
CallAnswer (host k) a = HostAnswer a

-- any image on any buffers: declined by a number of the table, or begun
abbrev pub StartAnswer : Started → Type 0
StartAnswer (declined e) = is_refusal e ≡ true
StartAnswer (begun m) = Unit {0}
