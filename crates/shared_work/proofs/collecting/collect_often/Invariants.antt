use Rattle.std.proofs.Common.{Ok}
use Rattle.ingest_workers.specs.Jobs.{AskedFrom}
use Rattle.shared_work.specs.Working.{CollectsOften}
use Rattle.shared_work.proofs.collecting.collect_often.Given as goal

abbrev pub invariant-loop-i : goal.invariant-loop-i
invariant-loop-i g l = AskedFrom g.S.StoreCalls.asks l.initial.caller (CollectsOften l.percent (Ok tt) l.i) l.caller
