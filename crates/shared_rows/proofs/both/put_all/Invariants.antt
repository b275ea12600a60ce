use Rattle.std.proofs.Common.{◌≡◌}
use Rattle.shared_rows.proofs.both.put_all.Given as goal

abbrev pub invariant-loop-number : goal.invariant-loop-number
invariant-loop-number g l = l.pass.store ≡ l.initial.pass.store
