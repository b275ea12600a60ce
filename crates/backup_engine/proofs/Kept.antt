-- What is kept of a disk that was lent, once it came back.
use Rattle.backup_engine.proofs.Prelude.{◌≡◌, sym, subst, List, ℕ, Result, Ok, Err, IsErrAnd, DiskView, IsLater}

-- P holds of a value that is known to be another
pub by_same : {A : Type 0} (P : A → Type 0) (x y : A) → x ≡ y → P y → P x
by_same P x y same known = subst P (sym same) known

-- what is so of each error is so of a result that is this one
pub by_error : {T E : Type 0} (P : Result T E → Type 0) (result : Result T E) (e : E) → IsErrAnd result (λ y. y ≡ e) → P (Err e) → P result
by_error P (Ok x) e is has = absurd is
by_error {T} P (Err y) e is has = subst (λ (z : _). P (Err z)) (sym is) has

-- a disk that was lent comes back later
pub later_back : (loans loans_now : List ℕ) (v w : DiskView) → v.loans ≡ w.loans → IsLater (record v { loans = loans }) (record w { loans = loans_now }) → IsLater v w
later_back loans loans_now v w held later = record {
  size_is = later.size_is;
  loans_are = sym held;
  clock_is = later.clock_is;
  faults_are = later.faults_are;
  tells = later.tells;
  returned = later.returned;
  images_were = later.images_were;
}
