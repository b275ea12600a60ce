use Rattle.std.proofs.Common.{◌≡◌, take}
use Rattle.store_state.proofs.comparing.first_difference.Given as goal

abbrev pub invariant-loop-i : goal.invariant-loop-i
invariant-loop-i l = take l.i l.offered ≡ take l.i l.held
