use Rattle.std.proofs.Common.{◌≡◌, ◌≤◌, ◌+◌, ◌++◌, length, map, reverse, vec_capacity}
use Rattle.ingest_workers.proofs.running.unseat.Given as goal

abbrev pub invariant-loop-worker : goal.invariant-loop-worker
invariant-loop-worker g l = record {
  room : length l.workers.items + length l.callers.items ≤ vec_capacity l.callers;
  callers : l.callers.items ++ reverse (map (λ w. w.caller) l.workers.items) ≡ reverse (map (λ w. w.caller) l.initial.workers.items);
}

abbrev pub decreases-loop-worker : goal.decreases-loop-worker
decreases-loop-worker g l = length l.workers.items
