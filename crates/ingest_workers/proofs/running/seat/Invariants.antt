use Rattle.std.proofs.Common.{◌≡◌, ◌≤◌, ◌+◌, ◌++◌, All, length, map, reverse, vec_capacity}
use Rattle.ingest_workers.specs.Working.{IsReady}
use Rattle.ingest_workers.proofs.running.seat.Given as goal

abbrev pub invariant-loop-caller : goal.invariant-loop-caller
invariant-loop-caller g l = record {
  many : length l.desks.items ≡ length l.callers.items;
  desks : All (IsReady l.jobs) l.desks.items;
  room : length l.workers.items + length l.callers.items ≤ vec_capacity l.workers;
  callers : map (λ w. w.caller) l.workers.items ++ reverse l.callers.items ≡ reverse l.initial.callers.items;
  ready : All (λ w. IsReady l.jobs w.desk) l.workers.items;
  capacity : vec_capacity l.callers ≡ vec_capacity l.initial.callers;
}

abbrev pub decreases-loop-caller : goal.decreases-loop-caller
decreases-loop-caller g l = length l.callers.items
