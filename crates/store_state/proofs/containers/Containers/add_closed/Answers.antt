use Rattle.std.proofs.Common.{[], ◌∷◌, ◌++◌, refl, ◌∙◌, ap}
use Rattle.store_state.specs.declared.slot_table.SlotCount.{SlotCount}
use Rattle.store_state.proofs.Entered.{represents_closed}
use Rattle.store_state.proofs.containers.Containers.add_closed.Goals as goal

pub returns : goal.returns
returns c = λ held are. represents_closed held c.args.self.now _ are refl c.in_ok-push.ensures.items
    (c.in_ok-push-2.ensures.items ∙ ap (λ (n : SlotCount). c.args.self.now.counts.items ++ n ∷ []) c.closed.ensures) refl
