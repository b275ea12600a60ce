-- What is so of an error is so of the result that is this error.
use Rattle.std.proofs.Common.{◌≡◌, Result, Ok, Err, sym, subst}
use Rattle.std.specs.Result.{IsErrAnd}

pub by_error : {T E : Type 0} (P : Result T E → Type 0) (result : Result T E) (e : E) → IsErrAnd result (λ y. y ≡ e) → P (Err e) → P result
by_error P (Ok x) e is has = absurd is
by_error {T} P (Err y) e is has = subst (λ (z : _). P (Err z)) (sym is) has
