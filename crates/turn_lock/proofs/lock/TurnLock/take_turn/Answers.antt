use Rattle.std.proofs.Common.{rules, ap, sym, ◌∙◌, ◌∷◌, Some}
use Rattle.atomic_table.specs.Table.{rest}
use Rattle.turn_lock.proofs.lock.TurnLock.take_turn.Goals as goal

pub exchange-requires : goal.exchange-requires
exchange-requires g c = let t = c.wait.ensures.served in let o = ap (λ m. m.1) t.is in
    (search rules, (Some t.found, o ∙ ap (λ l. (0, Some t.found) ∷ rest l) (sym o)))
