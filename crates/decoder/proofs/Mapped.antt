-- An instruction made of a word's operands, as its row makes it. Assumes nothing.
use Rattle.std.proofs.Common.{◌≡◌, Bool, true, false, ap, Result, Ok, Err}
use Rattle.std.specs.Result.{MatchResult, IsOkAnd}
use Rattle.anomaly.specs.declared.Refusal.{Refusal}
use Rattle.op.specs.Decode.{checked_of}
use Rattle.op.specs.declared.Op.{Op}

made : {A : Type 0} (Post : A → Op → Type 0) (make : A → Op) → ((y : A) (o : Op) → Post y o → o ≡ make y) → (x : A) (r : Result Op Refusal)
    → IsOkAnd r (Post x) → r ≡ Ok (make x)
made Post make h x (Ok o) p = ap Ok (h x o p)
made Post make h x (Err e) p = absurd p

pub mapped : {A : Type 0} (Post : A → Op → Type 0) (holds : Bool) (x : A) (make : A → Op) (given : Result A Refusal) (r : Result Op Refusal)
    → given ≡ checked_of holds x → MatchResult given (λ y. IsOkAnd r (Post y)) (λ e. r ≡ Err e) → ((y : A) (o : Op) → Post y o → o ≡ make y)
    → r ≡ checked_of holds (make x)
mapped Post true x make given r e c h = made Post make h x r (rw e at c)
mapped Post false x make given r e c h = rw e at c
