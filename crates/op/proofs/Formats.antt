-- What a shape gives of a word, by whether its parts hold what they may. Assumes nothing.
use Rattle.std.proofs.Common.{◌≡◌, ℕ, Bool, true, false, cond, sym, refl, ap, ◌∙◌, Result, Ok, Err}
use Rattle.std.specs.Result.{IsErrAnd}
use Rattle.std.proofs.lemmas.Result.{err_from_is_err_and}
use Rattle.anomaly.specs.declared.Refusal.{Refusal}
use Rattle.anomaly.specs.declared.Refusal.TheVariants.{Operand}
use Rattle.gc.specs.declared.AllocType.{AllocType}
use Rattle.gc.specs.declared.AllocType.TheVariants.{Record, Array, Option, String}
use Rattle.gc.specs.Metadata.{bits_of}
use Rattle.op.specs.Layout.{kind_of}
use Rattle.op.specs.Decode.{checked_of}

-- what was tested of a word says what its parts hold
module _ {fits holds : Bool} {r : Result (Unit {0}) Refusal} (says : fits ≡ holds) (answer : r ≡ checked_of fits tt) where
  pub passed : {x : Unit {0}} → r ≡ Ok x → holds ≡ true
  passed {x} h = go fits says (sym answer ∙ h)
    where
      go : (b : Bool) → b ≡ holds → checked_of b (tt {0}) ≡ Ok x → holds ≡ true
      go true e ok = sym e
      go false e ok = cc

  -- a refusal is handed on, whatever was to follow
  pub refuses : {A : Type 0} (next : Result A Refusal) (why : Refusal) (out : Result A Refusal) →
      r ≡ Err why → IsErrAnd out (λ y. y ≡ why) → out ≡ cond holds next (Err Operand)
  refuses {A} next why out h handed = go fits says (sym answer ∙ h)
    where
      handed_on : out ≡ Err why
      handed_on = let p = err_from_is_err_and out handed in rw (p.1, p.2) refl

      go : (b : Bool) → b ≡ holds → checked_of b (tt {0}) ≡ Err why → out ≡ cond holds next (Err Operand)
      go true e err = cc
      go false e err = rw (← e, handed_on) cc

pub gives : {A : Type 0} (holds : Bool) (x y : A) → holds ≡ true → y ≡ x → Ok y ≡ checked_of holds x
gives holds x y h e = rw h (ap Ok e)

-- the kind of a block by its number
pub numbered : (n : ℕ) (kind : AllocType) → bits_of kind ≡ n → kind ≡ kind_of n
numbered n Record e = rw (← e) refl
numbered n Array e = rw (← e) refl
numbered n Option e = rw (← e) refl
numbered n String e = rw (← e) refl
