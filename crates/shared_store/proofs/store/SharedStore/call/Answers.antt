use Rattle.std.proofs.Common.{rules, ap}
use Rattle.shared_store.proofs.Calling.{calls_of}
use Rattle.shared_store.proofs.store.SharedStore.call.Goals as goal

pub returns : goal.returns
returns g c =
    let t = c.with_turn-made.ensures.turn in record {
      called = calls_of g.C.HasState.state _ _ _ t.0 t.1 t.2 c.pass.inside.actor _ _ _ c.pass.view_is t.3 c.pass.invariant.1 c.requires.asked (search rules)
          (ap (λ m. m.0) t.5) (search rules) (search rules) (search rules) (search rules);
    }
