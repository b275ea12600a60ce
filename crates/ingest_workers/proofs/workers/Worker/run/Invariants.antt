use Rattle.std.proofs.Common.{◌≡◌, ◌≤◌, length, take, vec_capacity}
use Rattle.ingest_workers.specs.Jobs.{AskedFrom, OwnJobs}
use Rattle.ingest_workers.proofs.workers.Worker.run.Given as goal

abbrev pub invariant-loop-i : goal.invariant-loop-i
invariant-loop-i g l = record {
  own : AskedFrom g.S.StoreCalls.asks l.initial.self.caller (OwnJobs l.count l.number (take l.i l.jobs) l.self.desk.ends.items) l.self.caller;
  many : length l.self.desk.ends.items ≡ l.i;
  room : length l.jobs ≤ vec_capacity l.self.desk.ends;
}
