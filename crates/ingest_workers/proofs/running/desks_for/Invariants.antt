use Rattle.std.proofs.Common.{◌≡◌, ◌≤◌, All, length, vec_capacity}
use Rattle.ingest_workers.specs.Working.{IsReady}
use Rattle.ingest_workers.proofs.running.desks_for.Given as goal

abbrev pub invariant-loop : goal.invariant-loop
invariant-loop l = (length l.desks.items ≡ l.counter) × (l.count ≤ vec_capacity l.desks) × All (IsReady l.jobs) l.desks.items
