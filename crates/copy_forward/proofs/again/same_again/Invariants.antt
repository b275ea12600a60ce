use Rattle.std.proofs.Common.{◌≡◌, take}
use Rattle.copy_forward.proofs.again.same_again.Given as goal

abbrev pub invariant-loop-i : goal.invariant-loop-i
invariant-loop-i l = l.copy ≡ record { kind = l.from.kind; segments = take l.i l.from.segments }
