use Rattle.std.proofs.Common.{rules, ap, ◌∙◌}
use Rattle.turn_lock.proofs.Keeps.{looks}
use Rattle.turn_lock.proofs.lock.TurnLock.wait.Goals as goal

pub load-served-requires : goal.load-served-requires
load-served-requires g c = let w = c.requires.waits in let same = c.loop.invariant.1 in
    (search rules, search rules, looks _ _ _ _ _ _ w.0 (ap (λ m. m.0.stage) same ∙ w.1) (ap (λ m. m.1) same ∙ w.3))
