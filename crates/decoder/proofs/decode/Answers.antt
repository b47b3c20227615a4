-- `decode` meets its contract: each arm is its row of the table. Assumes nothing.
use Rattle.std.proofs.Common.{◌≡◌, ℕ, ◌%◌, ◌<◌, ◌≤◌, Bool, true, false, ltb, ltb-true, ltb-false, refl, Err, arith, rules}
use Rattle.anomaly.specs.declared.Refusal.TheVariants.{Opcode}
use Rattle.gc.specs.declared.AllocType.{AllocType}
use Rattle.op.specs.declared.Keys.{Keys}
use Rattle.op.specs.declared.Op.TheVariants as op
use Rattle.op.specs.Decode.{opcodes, rows, decoded_by, decode_of}
use Rattle.op.proofs.Rows.{refused-between, refused_above}
use Rattle.decoder.proofs.Mapped.{mapped}
use Rattle.decoder.proofs.decode.Goals as goal

refused_outside : (w : ℕ) → (w % 256 < 50 → 40 ≤ w % 256) → (50 ≤ w % 256 → opcodes ≤ w % 256) → Err Opcode ≡ decode_of w
refused_outside w below above = go (ltb (w % 256) 50) refl
  where
    go : (b : Bool) → ltb (w % 256) 50 ≡ b → Err Opcode ≡ decode_of w
    go true h = let low = ltb-true (w % 256) 50 h in refused-between w (below low) low
    go false h = refused_above w (above (ltb-false (w % 256) 50 h))

pub returns-in-0 : goal.returns-in-0
unfolding rows decoded_by decode_of
returns-in-0 c =
    rw c.in-0.is (mapped _ _ _ (λ (v : ℕ × ℕ × ℕ). op.IAdd v.0 v.1 v.2) _ _ c.three.ensures c.map.ensures.cases (λ y o p. search rules))

pub returns-in-1 : goal.returns-in-1
unfolding rows decoded_by decode_of
returns-in-1 c =
    rw c.in-1.is (mapped _ _ _ (λ (v : ℕ × ℕ × ℕ). op.IAddI v.0 v.1 v.2) _ _ c.two_and_signed.ensures c.map-in-1.ensures.cases (λ y o p. search rules))

pub returns-in-2 : goal.returns-in-2
unfolding rows decoded_by decode_of
returns-in-2 c =
    rw c.in-2.is (mapped _ _ _ (λ (v : ℕ × ℕ × ℕ). op.ISub v.0 v.1 v.2) _ _ c.three-in-2.ensures c.map-in-2.ensures.cases (λ y o p. search rules))

pub returns-in-3 : goal.returns-in-3
unfolding rows decoded_by decode_of
returns-in-3 c =
    rw c.in-3.is (mapped _ _ _ (λ (v : ℕ × ℕ × ℕ). op.ISubI v.0 v.1 v.2) _ _ c.two_and_signed-in-3.ensures c.map-in-3.ensures.cases (λ y o p. search rules))

pub returns-in-4 : goal.returns-in-4
unfolding rows decoded_by decode_of
returns-in-4 c =
    rw c.in-4.is (mapped _ _ _ (λ (v : ℕ × ℕ × ℕ). op.IMul v.0 v.1 v.2) _ _ c.three-in-4.ensures c.map-in-4.ensures.cases (λ y o p. search rules))

pub returns-in-5 : goal.returns-in-5
unfolding rows decoded_by decode_of
returns-in-5 c =
    rw c.in-5.is (mapped _ _ _ (λ (v : ℕ × ℕ × ℕ). op.IMulI v.0 v.1 v.2) _ _ c.two_and_signed-in-5.ensures c.map-in-5.ensures.cases (λ y o p. search rules))

pub returns-in-6 : goal.returns-in-6
unfolding rows decoded_by decode_of
returns-in-6 c =
    rw c.in-6.is (mapped _ _ _ (λ (v : ℕ × ℕ × ℕ). op.IDiv v.0 v.1 v.2) _ _ c.three-in-6.ensures c.map-in-6.ensures.cases (λ y o p. search rules))

pub returns-in-7 : goal.returns-in-7
unfolding rows decoded_by decode_of
returns-in-7 c =
    rw c.in-7.is (mapped _ _ _ (λ (v : ℕ × ℕ × ℕ). op.IDivI v.0 v.1 v.2) _ _ c.two_and_signed-in-7.ensures c.map-in-7.ensures.cases (λ y o p. search rules))

pub returns-in-8 : goal.returns-in-8
unfolding rows decoded_by decode_of
returns-in-8 c =
    rw c.in-8.is (mapped _ _ _ (λ (v : ℕ × ℕ × ℕ). op.IMod v.0 v.1 v.2) _ _ c.three-in-8.ensures c.map-in-8.ensures.cases (λ y o p. search rules))

pub returns-in-9 : goal.returns-in-9
unfolding rows decoded_by decode_of
returns-in-9 c =
    rw c.in-9.is (mapped _ _ _ (λ (v : ℕ × ℕ × ℕ). op.IModI v.0 v.1 v.2) _ _ c.two_and_signed-in-9.ensures c.map-in-9.ensures.cases (λ y o p. search rules))

pub returns-in-10 : goal.returns-in-10
unfolding rows decoded_by decode_of
returns-in-10 c =
    rw c.in-10.is (mapped _ _ _ (λ (v : ℕ × ℕ × ℕ). op.IAnd v.0 v.1 v.2) _ _ c.three-in-10.ensures c.map-in-10.ensures.cases (λ y o p. search rules))

pub returns-in-11 : goal.returns-in-11
unfolding rows decoded_by decode_of
returns-in-11 c =
    rw c.in-11.is (mapped _ _ _ (λ (v : ℕ × ℕ × ℕ). op.IAndI v.0 v.1 v.2) _ _ c.two_and_signed-in-11.ensures c.map-in-11.ensures.cases (λ y o p. search rules))

pub returns-in-12 : goal.returns-in-12
unfolding rows decoded_by decode_of
returns-in-12 c =
    rw c.in-12.is (mapped _ _ _ (λ (v : ℕ × ℕ × ℕ). op.ILt v.0 v.1 v.2) _ _ c.three-in-12.ensures c.map-in-12.ensures.cases (λ y o p. search rules))

pub returns-in-13 : goal.returns-in-13
unfolding rows decoded_by decode_of
returns-in-13 c =
    rw c.in-13.is (mapped _ _ _ (λ (v : ℕ × ℕ × ℕ). op.IGt v.0 v.1 v.2) _ _ c.three-in-13.ensures c.map-in-13.ensures.cases (λ y o p. search rules))

pub returns-in-14 : goal.returns-in-14
unfolding rows decoded_by decode_of
returns-in-14 c =
    rw c.in-14.is (mapped _ _ _ (λ (v : ℕ × ℕ × ℕ). op.IEq v.0 v.1 v.2) _ _ c.three-in-14.ensures c.map-in-14.ensures.cases (λ y o p. search rules))

pub returns-in-15 : goal.returns-in-15
unfolding rows decoded_by decode_of
returns-in-15 c =
    rw c.in-15.is (mapped _ _ _ (λ (v : ℕ × ℕ × ℕ). op.IEqI v.0 v.1 v.2) _ _ c.two_and_signed-in-15.ensures c.map-in-15.ensures.cases (λ y o p. search rules))

pub returns-in-16 : goal.returns-in-16
unfolding rows decoded_by decode_of
returns-in-16 c =
    rw c.in-16.is (mapped _ _ _ (λ (v : ℕ × ℕ × ℕ). op.IGtI v.0 v.1 v.2) _ _ c.two_and_signed-in-16.ensures c.map-in-16.ensures.cases (λ y o p. search rules))

pub returns-in-17 : goal.returns-in-17
unfolding rows decoded_by decode_of
returns-in-17 c =
    rw c.in-17.is (mapped _ _ _ (λ (v : ℕ × ℕ × ℕ). op.ILtI v.0 v.1 v.2) _ _ c.two_and_signed-in-17.ensures c.map-in-17.ensures.cases (λ y o p. search rules))

pub returns-in-18 : goal.returns-in-18
unfolding rows decoded_by decode_of
returns-in-18 c =
    rw c.in-18.is (mapped _ _ _ (λ (v : ℕ × ℕ × ℕ). op.DAdd v.0 v.1 v.2) _ _ c.three-in-18.ensures c.map-in-18.ensures.cases (λ y o p. search rules))

pub returns-in-19 : goal.returns-in-19
unfolding rows decoded_by decode_of
returns-in-19 c =
    rw c.in-19.is (mapped _ _ _ (λ (v : ℕ × ℕ × ℕ). op.DSub v.0 v.1 v.2) _ _ c.three-in-19.ensures c.map-in-19.ensures.cases (λ y o p. search rules))

pub returns-in-20 : goal.returns-in-20
unfolding rows decoded_by decode_of
returns-in-20 c =
    rw c.in-20.is (mapped _ _ _ (λ (v : ℕ × ℕ × ℕ). op.DMul v.0 v.1 v.2) _ _ c.three-in-20.ensures c.map-in-20.ensures.cases (λ y o p. search rules))

pub returns-in-21 : goal.returns-in-21
unfolding rows decoded_by decode_of
returns-in-21 c =
    rw c.in-21.is (mapped _ _ _ (λ (v : ℕ × ℕ × ℕ). op.DDiv v.0 v.1 v.2) _ _ c.three-in-21.ensures c.map-in-21.ensures.cases (λ y o p. search rules))

pub returns-in-22 : goal.returns-in-22
unfolding rows decoded_by decode_of
returns-in-22 c =
    rw c.in-22.is (mapped _ _ _ (λ (v : ℕ × ℕ × ℕ). op.DLt v.0 v.1 v.2) _ _ c.three-in-22.ensures c.map-in-22.ensures.cases (λ y o p. search rules))

pub returns-in-23 : goal.returns-in-23
unfolding rows decoded_by decode_of
returns-in-23 c =
    rw c.in-23.is (mapped _ _ _ (λ (v : ℕ × ℕ × ℕ). op.DGt v.0 v.1 v.2) _ _ c.three-in-23.ensures c.map-in-23.ensures.cases (λ y o p. search rules))

pub returns-in-24 : goal.returns-in-24
unfolding rows decoded_by decode_of
returns-in-24 c =
    rw c.in-24.is (mapped _ _ _ (λ (v : ℕ × ℕ × ℕ). op.BEq v.0 v.1 v.2) _ _ c.three-in-24.ensures c.map-in-24.ensures.cases (λ y o p. search rules))

pub returns-in-25 : goal.returns-in-25
unfolding rows decoded_by decode_of
returns-in-25 c =
    rw c.in-25.is (mapped _ _ _ (λ (v : ℕ × ℕ × ℕ). op.SEq v.0 v.1 v.2) _ _ c.three-in-25.ensures c.map-in-25.ensures.cases (λ y o p. search rules))

pub returns-in-26 : goal.returns-in-26
unfolding rows decoded_by decode_of
returns-in-26 c =
    rw c.in-26.is (mapped _ _ _ (λ (v : ℕ × ℕ). op.Mov v.0 v.1) _ _ c.two.ensures c.map-in-26.ensures.cases (λ y o p. search rules))

pub returns-in-27 : goal.returns-in-27
unfolding rows decoded_by decode_of
returns-in-27 c =
    rw c.in-27.is (mapped _ _ _ (λ (v : ℕ × ℕ). op.LoadI v.0 v.1) _ _ c.one_and_signed.ensures c.map-in-27.ensures.cases (λ y o p. search rules))

pub returns-in-28 : goal.returns-in-28
unfolding rows decoded_by decode_of
returns-in-28 c =
    rw c.in-28.is (mapped _ _ _ (λ (v : ℕ × ℕ). op.LoadG v.0 v.1) _ _ c.one_and_number.ensures c.map-in-28.ensures.cases (λ y o p. search rules))

pub returns-in-29 : goal.returns-in-29
unfolding rows decoded_by decode_of
returns-in-29 c =
    rw c.in-29.is (mapped _ _ _ op.Jmp _ _ c.jump.ensures c.map-in-29.ensures.cases (λ y o p. search rules))

pub returns-in-30 : goal.returns-in-30
unfolding rows decoded_by decode_of
returns-in-30 c =
    rw c.in-30.is (mapped _ _ _ (λ (v : ℕ × ℕ). op.JmpT v.0 v.1) _ _ c.jump_if.ensures c.map-in-30.ensures.cases (λ y o p. search rules))

pub returns-in-31 : goal.returns-in-31
unfolding rows decoded_by decode_of
returns-in-31 c =
    rw c.in-31.is (mapped _ _ _ (λ (v : ℕ × ℕ). op.JmpF v.0 v.1) _ _ c.jump_if-in-31.ensures c.map-in-31.ensures.cases (λ y o p. search rules))

pub returns-in-32 : goal.returns-in-32
unfolding rows decoded_by decode_of
returns-in-32 c =
    rw c.in-32.is (mapped _ _ _ (λ (v : ℕ × ℕ × ℕ). op.JmpEqI v.0 v.1 v.2) _ _ c.jump_immediate.ensures c.map-in-32.ensures.cases (λ y o p. search rules))

pub returns-in-33 : goal.returns-in-33
unfolding rows decoded_by decode_of
returns-in-33 c =
    rw c.in-33.is (mapped _ _ _ (λ (v : ℕ × ℕ × ℕ). op.JmpNeI v.0 v.1 v.2) _ _ c.jump_immediate-in-33.ensures c.map-in-33.ensures.cases (λ y o p. search rules))

pub returns-in-34 : goal.returns-in-34
unfolding rows decoded_by decode_of
returns-in-34 c =
    rw c.in-34.is (mapped _ _ _ (λ (v : ℕ × ℕ × ℕ). op.JmpSEq v.0 v.1 v.2) _ _ c.jump_two.ensures c.map-in-34.ensures.cases (λ y o p. search rules))

pub returns-in-35 : goal.returns-in-35
unfolding rows decoded_by decode_of
returns-in-35 c =
    rw c.in-35.is (mapped _ _ _ (λ (v : ℕ × ℕ × ℕ). op.JmpSNe v.0 v.1 v.2) _ _ c.jump_two-in-35.ensures c.map-in-35.ensures.cases (λ y o p. search rules))

pub returns-in-36 : goal.returns-in-36
unfolding rows decoded_by decode_of
returns-in-36 c =
    rw c.in-36.is (mapped _ _ _ (λ (v : Keys × ℕ × ℕ). op.Switch v.0 v.1 v.2) _ _ c.switch.ensures c.map-in-36.ensures.cases (λ y o p. search rules))

pub returns-in-37 : goal.returns-in-37
unfolding rows decoded_by decode_of
returns-in-37 c =
    rw c.in-37.is (mapped _ _ _ (λ (v : Keys × ℕ × ℕ × ℕ). op.Lookup v.0 v.1 v.2 v.3) _ _ c.lookup.ensures c.map-in-37.ensures.cases (λ y o p. search rules))

pub returns-in-38 : goal.returns-in-38
unfolding rows decoded_by decode_of
returns-in-38 c =
    rw c.in-38.is (mapped _ _ _ op.Tail _ _ c.function.ensures c.map-in-38.ensures.cases (λ y o p. search rules))

pub returns-in-39 : goal.returns-in-39
unfolding rows decoded_by decode_of
returns-in-39 c =
    rw c.in-39.is (mapped _ _ _ op.Call _ _ c.function-in-39.ensures c.map-in-39.ensures.cases (λ y o p. search rules))

pub returns-in-50 : goal.returns-in-50
unfolding rows decoded_by decode_of
returns-in-50 c =
    rw c.in-50.is (mapped _ _ _ (λ (v : ℕ × ℕ). op.CastToInt v.0 v.1) _ _ c.two-in-50.ensures c.map-in-50.ensures.cases (λ y o p. search rules))

pub returns-in-51 : goal.returns-in-51
unfolding rows decoded_by decode_of
returns-in-51 c =
    rw c.in-51.is (mapped _ _ _ (λ (v : ℕ × ℕ). op.CastToDouble v.0 v.1) _ _ c.two-in-51.ensures c.map-in-51.ensures.cases (λ y o p. search rules))

pub returns-in-52 : goal.returns-in-52
unfolding rows decoded_by decode_of
returns-in-52 c =
    rw c.in-52.is (mapped _ _ _ (λ (v : ℕ × ℕ). op.CastToBool v.0 v.1) _ _ c.two-in-52.ensures c.map-in-52.ensures.cases (λ y o p. search rules))

pub returns-in-53 : goal.returns-in-53
unfolding rows decoded_by decode_of
returns-in-53 c =
    rw c.in-53.is (mapped _ _ _ (λ (v : ℕ × AllocType × ℕ × ℕ). op.Alloc v.1 v.0 v.2 v.3) _ _ c.alloc.ensures c.map-in-53.ensures.cases (λ y o p. search rules))

pub returns-in-54 : goal.returns-in-54
unfolding rows decoded_by decode_of
returns-in-54 c =
    rw c.in-54.is (mapped _ _ _ (λ (v : ℕ × ℕ × ℕ). op.Store v.0 v.2 v.1) _ _ c.two_and_number.ensures c.map-in-54.ensures.cases (λ y o p. search rules))

pub returns-in-55 : goal.returns-in-55
unfolding rows decoded_by decode_of
returns-in-55 c =
    rw c.in-55.is (mapped _ _ _ (λ (v : ℕ × ℕ × ℕ). op.Load v.0 v.1 v.2) _ _ c.two_and_number-in-55.ensures c.map-in-55.ensures.cases (λ y o p. search rules))

pub returns-in-56 : goal.returns-in-56
unfolding rows decoded_by decode_of
returns-in-56 c =
    rw c.in-56.is (mapped _ _ _ (λ (v : ℕ × ℕ × ℕ). op.AddrOf v.0 v.1 v.2) _ _ c.two_and_number-in-56.ensures c.map-in-56.ensures.cases (λ y o p. search rules))

pub returns-in-57 : goal.returns-in-57
unfolding rows decoded_by decode_of
returns-in-57 c =
    rw c.in-57.is (mapped _ _ _ (λ (v : Unit {0}). op.Ret) _ _ c.bare.ensures c.map-in-57.ensures.cases (λ y o p. search rules))

pub returns-in-58 : goal.returns-in-58
unfolding rows decoded_by decode_of
returns-in-58 c =
    rw c.in-58.is (mapped _ _ _ op.Assert _ _ c.condition.ensures c.map-in-58.ensures.cases (λ y o p. search rules))

pub returns-in-59 : goal.returns-in-59
unfolding rows decoded_by decode_of
returns-in-59 c =
    rw c.in-59.is (mapped _ _ _ (λ (v : Unit {0}). op.Halt) _ _ c.bare-in-59.ensures c.map-in-59.ensures.cases (λ y o p. search rules))

pub returns-in-60 : goal.returns-in-60
unfolding rows decoded_by decode_of
returns-in-60 c =
    rw c.in-60.is (mapped _ _ _ (λ (v : Unit {0}). op.Nop) _ _ c.bare-in-60.ensures c.map-in-60.ensures.cases (λ y o p. search rules))

pub returns-in_default : goal.returns-in_default
returns-in_default c = refused_outside c.args.w (λ h. omega arith) (λ h. omega arith)
