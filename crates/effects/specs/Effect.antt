-- What each instruction asks for, by its operands, the registers and the image: the meaning of every `Op`. Definitions only.
use Rattle.std.specs.Prelude.{ℕ, ◌+◌, ◌-◌, ◌*◌, ◌/◌, ◌%◌, ◌^◌, Bool, cond, not, List, length, ◌==◌, bit_and, int_lt, nat_lt, slice_index, slice_index_or, Result, Ok, Err}
use Rattle.std.specs.Bool.{beq}
use Rattle.std.specs.Float.Ieee as Ieee
use Rattle.value.specs.declared.int.DivisionError.{DivisionError}
use Rattle.value.specs.declared.int.DivisionError.TheVariants.{ByZero, Overflow}
use Rattle.value.specs.Int.{signed, quotient_of, remainder_of}
use Rattle.value.specs.Double.{double, on}
use Rattle.value.specs.Cast.{truth, bit, cast_to_int, cast_to_double, cast_to_bool}
use Rattle.op.specs.declared.Op.{Op}
use Rattle.op.specs.declared.Op.TheVariants as op
use Rattle.anomaly.specs.declared.Refusal.{Refusal}
use Rattle.anomaly.specs.declared.Anomaly.TheVariants.{DivisionByZero, QuotientOverflow, AssertionFailed}
use Rattle.op.specs.declared.Keys.{Keys}
use Rattle.op.specs.declared.Keys.TheVariants.{Str, Int}
use Rattle.effects.specs.declared.Stop.TheVariants as stop
use Rattle.effects.specs.Stops.{unlisted}
use Rattle.effects.specs.declared.Effect.{Effect}
use Rattle.effects.specs.declared.Effect.TheVariants as effect
use Rattle.program.specs.Image.{Image, entries_of}

-- 'Add, subtract and multiply keep the low 64 bits'
abbrev pub low : ℕ → ℕ
low n = n % 2 ^ 64

-- x - y modulo 2^64, of patterns
abbrev pub minus : ℕ → ℕ → ℕ
minus x y = low (x + (2 ^ 64 - y))

abbrev pub less : ℕ → ℕ → ℕ
less x y = bit (int_lt (signed x) (signed y))

abbrev pub less_double : ℕ → ℕ → ℕ
less_double x y = bit (Ieee.lt (double x) (double y))

-- 1 for a zero divisor, 7 for the one overflow
unfoldable pub divided : ℕ → Result ℕ DivisionError → Effect
divided dst (Ok v) = effect.Set dst v
divided dst (Err ByZero) = effect.Stop (stop.Anomaly DivisionByZero)
divided dst (Err Overflow) = effect.Stop (stop.Anomaly QuotientOverflow)

unfoldable pub jump_if : Bool → ℕ → Effect
jump_if b target = cond b (effect.Goto target) effect.Skip

-- a read at i of n places, and what it gives
unfoldable pub within : ℕ → ℕ → Effect → Effect
within i n e = cond (nat_lt i n) e (effect.Unlisted unlisted)

-- the slot of a subject: 'Subject first−1 falls through': the difference wraps. Keys of Str lie 4 apart
unfoldable pub slot : Keys → ℕ → ℕ → ℕ
slot Str subject first = minus subject first / 4
slot Int subject first = minus subject first

-- `Switch`: the slot's target, or on to the next instruction where there is no such slot
unfoldable pub switched : List ℕ → ℕ → Effect
switched targets s = cond (nat_lt s (length targets)) (effect.Goto (slice_index targets s)) effect.Skip

unfoldable pub effect_of : Image → List ℕ → Op → Effect
effect_of im r (op.IAdd dst lhs rhs) = effect.Set dst (low (slice_index r lhs + slice_index r rhs))
effect_of im r (op.IAddI dst lhs imm) = effect.Set dst (low (slice_index r lhs + imm))
effect_of im r (op.ISub dst lhs rhs) = effect.Set dst (minus (slice_index r lhs) (slice_index r rhs))
effect_of im r (op.ISubI dst lhs imm) = effect.Set dst (minus (slice_index r lhs) imm)
effect_of im r (op.IMul dst lhs rhs) = effect.Set dst (low (slice_index r lhs * slice_index r rhs))
effect_of im r (op.IMulI dst lhs imm) = effect.Set dst (low (slice_index r lhs * imm))
effect_of im r (op.IDiv dst lhs rhs) = divided dst (quotient_of (slice_index r lhs) (slice_index r rhs))
effect_of im r (op.IDivI dst lhs imm) = divided dst (quotient_of (slice_index r lhs) imm)
effect_of im r (op.IMod dst lhs rhs) = divided dst (remainder_of (slice_index r lhs) (slice_index r rhs))
effect_of im r (op.IModI dst lhs imm) = divided dst (remainder_of (slice_index r lhs) imm)
effect_of im r (op.IAnd dst lhs rhs) = effect.Set dst (bit_and (slice_index r lhs) (slice_index r rhs))
effect_of im r (op.IAndI dst lhs imm) = effect.Set dst (bit_and (slice_index r lhs) imm)
effect_of im r (op.ILt dst lhs rhs) = effect.Set dst (less (slice_index r lhs) (slice_index r rhs))
effect_of im r (op.IGt dst lhs rhs) = effect.Set dst (less (slice_index r rhs) (slice_index r lhs))
effect_of im r (op.IEq dst lhs rhs) = effect.Set dst (bit (slice_index r lhs == slice_index r rhs))
effect_of im r (op.IEqI dst lhs imm) = effect.Set dst (bit (slice_index r lhs == imm))
effect_of im r (op.IGtI dst lhs imm) = effect.Set dst (less imm (slice_index r lhs))
effect_of im r (op.ILtI dst lhs imm) = effect.Set dst (less (slice_index r lhs) imm)
effect_of im r (op.DAdd dst lhs rhs) = effect.Set dst (on Ieee.add (slice_index r lhs) (slice_index r rhs))
effect_of im r (op.DSub dst lhs rhs) = effect.Set dst (on Ieee.sub (slice_index r lhs) (slice_index r rhs))
effect_of im r (op.DMul dst lhs rhs) = effect.Set dst (on Ieee.mul (slice_index r lhs) (slice_index r rhs))
effect_of im r (op.DDiv dst lhs rhs) = effect.Set dst (on Ieee.div (slice_index r lhs) (slice_index r rhs))
effect_of im r (op.DLt dst lhs rhs) = effect.Set dst (less_double (slice_index r lhs) (slice_index r rhs))
effect_of im r (op.DGt dst lhs rhs) = effect.Set dst (less_double (slice_index r rhs) (slice_index r lhs))
effect_of im r (op.BEq dst lhs rhs) = effect.Set dst (bit (beq (truth (slice_index r lhs)) (truth (slice_index r rhs))))
effect_of im r (op.SEq dst lhs rhs) = effect.Set dst (bit (slice_index r lhs == slice_index r rhs))
effect_of im r (op.Mov dst src) = effect.Set dst (slice_index r src)
effect_of im r (op.LoadI dst value) = effect.Set dst value
effect_of im r (op.LoadG dst idx) = within idx (length im.globals) (effect.Set dst (slice_index im.globals idx))
effect_of im r (op.Jmp target) = effect.Goto target
effect_of im r (op.JmpT c target) = jump_if (truth (slice_index r c)) target
effect_of im r (op.JmpF c target) = jump_if (not (truth (slice_index r c))) target
effect_of im r (op.JmpEqI lhs imm target) = jump_if (slice_index r lhs == imm) target
effect_of im r (op.JmpNeI lhs imm target) = jump_if (not (slice_index r lhs == imm)) target
effect_of im r (op.JmpSEq lhs rhs target) = jump_if (slice_index r lhs == slice_index r rhs) target
effect_of im r (op.JmpSNe lhs rhs target) = jump_if (not (slice_index r lhs == slice_index r rhs)) target
effect_of im r (op.Switch keys subject table) =
    within table (length im.switches.firsts)
    (switched (entries_of im.switches table) (slot keys (slice_index r subject) (slice_index im.switches.firsts table)))
effect_of im r (op.Lookup keys dst subject table) =
    within table (length im.lookups.firsts)
    (effect.Set dst
    (slice_index_or (entries_of im.lookups table)
    (slot keys (slice_index r subject) (slice_index im.lookups.firsts table))
    (slice_index im.defaults table)))
effect_of im r (op.Tail func) = effect.Goto func
effect_of im r (op.Call func) = effect.Call func
effect_of im r (op.CastToInt dst src) = effect.Set dst (cast_to_int (slice_index r src))
effect_of im r (op.CastToDouble dst src) = effect.Set dst (cast_to_double (slice_index r src))
effect_of im r (op.CastToBool dst src) = effect.Set dst (cast_to_bool (slice_index r src))
effect_of im r (op.Alloc kind dst size align) = effect.Alloc kind dst size
effect_of im r (op.Store base offset src) = effect.Store (slice_index r base) offset (slice_index r src)
effect_of im r (op.Load dst base offset) = effect.Load dst (slice_index r base) offset
effect_of im r (op.AddrOf dst base offset) = effect.Set dst (low (slice_index r base + offset))
effect_of im r op.Ret = effect.Ret
effect_of im r (op.Assert c) = cond (truth (slice_index r c)) effect.Skip (effect.Stop (stop.Anomaly AssertionFailed))
effect_of im r op.Halt = effect.Halt
effect_of im r op.Nop = effect.Skip

-- the effect of a decoded word. One that is no instruction would stop with its refusal; the loader has refused it before
unfoldable pub word_effect : Image → List ℕ → Result Op Refusal → Effect
word_effect im r (Ok o) = effect_of im r o
word_effect im r (Err why) = effect.Stop (stop.Refused why)
