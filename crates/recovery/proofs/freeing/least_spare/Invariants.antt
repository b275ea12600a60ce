use Rattle.recovery.proofs.Prelude.{IsLeastOf}
use Rattle.recovery.proofs.freeing.least_spare.Given as goal

-- of the slots so far
abbrev pub invariant-loop-slot : goal.invariant-loop-slot
invariant-loop-slot l = IsLeastOf l.ids l.used l.slot l.least
