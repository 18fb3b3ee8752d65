-- A refusal that `?` hands on is the refusal as it was. Assumes nothing.
use Rattle.std.proofs.Common.{◌≡◌, ap, Result, Ok, Err, IsErrAnd}

pub err_is : {A E : Type 0} (r : Result A E) (e : E) → IsErrAnd r (λ x. x ≡ e) → r ≡ Err e
err_is (Err x) e h = ap Err h
err_is (Ok x) e h = absurd h
