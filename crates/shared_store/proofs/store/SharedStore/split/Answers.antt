use Rattle.std.proofs.Common.{rules, refl}
use Rattle.shared_store.proofs.Passing.{splits_none, splits_pass}
use Rattle.shared_store.proofs.store.SharedStore.split.Goals as goal

pub returns-in-Some-clause-split : goal.returns-in-Some-clause-split
returns-in-Some-clause-split g c =
    let e = c.in-Ok.ensures in
    splits_pass g.C.HasState.state _ _ _ _ c.in-Ok.field-0.number c.in-Ok.field-0.lines _ _ c.pass.view_is e.split e.other.1 refl refl (e.same.0, e.other.0) refl
    (search rules) (refl, refl) (refl, refl)

pub returns-in-Err-clause-none : goal.returns-in-Err-clause-none
returns-in-Err-clause-none g c =
    let e = c.in-Err.ensures in
    (refl, splits_none g.C.HasState.state _ _ _ c.in-Err.lines _ c.pass.view_is e.none refl e.same.0 refl (refl, refl))
