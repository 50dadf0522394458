-- The exit of a `?`.
use Rattle.std.proofs.Common.{◌≡◌, Result, Err, ap, sym, ◌∙◌, subst}
use Rattle.std.specs.Result.{IsErrAnd}
use Rattle.std.proofs.lemmas.Result.{err_from_is_err_and}

-- it answers the error that was met
pub exit_is : {A E : Type 0} (r : Result A E) (e : E) → IsErrAnd r (λ y. y ≡ e) → r ≡ Err e
exit_is r e is = let q = err_from_is_err_and r is in q.1 ∙ ap Err q.2

-- so what holds of that error holds of the answer
pub after_err : {A E : Type 0} (P : Result A E → Type 0) (e : E) (r : Result A E) → IsErrAnd r (λ y. y ≡ e) → P (Err e) → P r
after_err P e r is holds = subst P (sym (exit_is r e is)) holds

err_same : {A E : Type 0} (e x : E) → ◌≡◌ {A = Result A E} (Err e) (Err x) → e ≡ x
err_same e x h = cc

-- and the error is what the answer shows
pub err_met : {A E : Type 0} (r : Result A E) (e x : E) → IsErrAnd r (λ y. y ≡ e) → r ≡ Err x → e ≡ x
err_met r e x is same = err_same e x (sym (exit_is r e is) ∙ same)
