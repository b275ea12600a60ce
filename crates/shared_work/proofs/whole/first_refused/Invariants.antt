use Rattle.std.proofs.Common.{◌≡◌, drop}
use Rattle.shared_work.specs.Whole.{first_refused}
use Rattle.shared_work.proofs.whole.first_refused.Given as goal

abbrev pub invariant-loop-end : goal.invariant-loop-end
invariant-loop-end l = first_refused l.ends ≡ first_refused (drop l.end-index l.ends)
