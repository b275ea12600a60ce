-- Lists in which each element has a property.
use Rattle.ingest_session.proofs.Prelude.{List, [], ◌∷◌, ◌++◌, AllByRecursion}

pub all_and_one : {X : Type 0} (P : X → Type 0) (xs : List X) (x : X) → AllByRecursion P xs → P x → AllByRecursion P (xs ++ x ∷ [])
all_and_one P [] x all one = (one, tt)
all_and_one P (y ∷ ys) x all one = (all.0, all_and_one P ys x all.1 one)
