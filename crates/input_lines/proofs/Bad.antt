-- What is answered where bytes are no request.
use Rattle.std.proofs.Common.{◌≡◌, sym, subst}
use Rattle.std.proofs.lemmas.Result.{err_from_is_err_and}
use Rattle.std.specs.Prelude.{Result, MatchResult}
use Rattle.std.specs.Result.{IsErrAnd}
use Rattle.input_lines.specs.declared.request.LineError.{LineError}
use Rattle.input_lines.specs.declared.request.LineError.TheVariants as errors
use Rattle.input_lines.specs.Request.{IsBadWhere}

pub bad_again : {P Q : Type 0} → (e : LineError) → (P → Q) → IsBadWhere P e → IsBadWhere Q e
bad_again (errors.Memory a) f bad = tt
bad_again errors.BadLine f bad = f bad

-- an error that a `?` hands on
pub handed_on : {X P Q : Type 0} (R : X → Type 0) (r : Result X LineError) (e : LineError) → IsErrAnd r (λ y. y ≡ e) → (P → Q) → IsBadWhere P e →
    MatchResult r R (λ y. IsBadWhere Q y)
handed_on {X} {P} {Q} R r e gave f bad =
    let p = err_from_is_err_and r gave in
    subst (λ (x : Result X LineError). MatchResult x R (λ y. IsBadWhere Q y)) (sym p.1) (subst (IsBadWhere Q) (sym p.2) (bad_again e f bad))
