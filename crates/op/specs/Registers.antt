-- The register with a number. Definitions only.
use Rattle.std.specs.Prelude.{◌≡◌, ℕ, ◌≤◌, ◌<◌, Result, MatchResult}
use Rattle.op.specs.declared.register.NoRegister.{NoRegister}

-- 'register above 31': the register with this number, or the number, which no register has
abbrev pub IsRegisterOf : ℕ → Result ℕ NoRegister → Type 0
IsRegisterOf n r = MatchResult r (λ register. (register ≡ n) × (n < 32)) (λ e. (e.0 ≡ n) × (32 ≤ n))
