use Rattle.std.proofs.Common.{refl, sym, subst, ◌∙◌}
use Rattle.turn_lock.specs.Lock.{Ends}
use Rattle.shared_store.specs.Made.{MadeBy}
use Rattle.shared_store.specs.Passes.{PassValue}
use Rattle.shared_store.proofs.Passing.{hands_back}
use Rattle.shared_store.proofs.store.SharedStore.into_core.Goals as goal

pub returns-in-Ok-clause-ended : goal.returns-in-Ok-clause-ended
returns-in-Ok-clause-ended g c =
    subst (λ (z : PassValue g.row.C.Denot × g.row.C.Denot). Ends (MadeBy g.C.HasState.state) z.0.view z.1)
    (λ i. (c.pass.view_is i, sym c.into_core.ensures.core i)) c.in-Ok.ensures.ended

pub returns-in-Err-clause-back : goal.returns-in-Err-clause-back
returns-in-Err-clause-back g c =
    let o = c.in-Err.ensures.others in
    let same = c.in-Err.ensures.same in (
      hands_back g.C.HasState.state _ _ _ _ c.pass.inside.numbers c.in-Err.field-0.lines o.1.0 o.1.1 c.in-Err.field-0.pass.me c.pass.view_is o.0 o.1.2 o.1.3
          c.pass.invariant.2 o.1.4 o.1.5 refl same.1.0 refl (refl, refl),
      same.0 ∙ c.self.view_is,
    )
