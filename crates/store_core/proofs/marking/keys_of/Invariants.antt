use Rattle.store_core.proofs.Prelude.{◌≡◌, take}
use Rattle.store_core.specs.Collecting.{keys_in}
use Rattle.store_core.proofs.marking.keys_of.Given as goal

abbrev pub invariant-loop-i : goal.invariant-loop-i
invariant-loop-i l = l.keys.items ≡ keys_in (take l.i l.filled)
