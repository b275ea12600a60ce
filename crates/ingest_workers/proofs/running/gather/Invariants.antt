use Rattle.std.proofs.Common.{◌≡◌, ◌≤◌, ◌<◌, ◌%◌, ℕ, length, get_or, slice_index_or, vec_capacity}
use Rattle.ingest_workers.specs.declared.job.Job.{Job}
use Rattle.ingest_workers.specs.declared.job.JobEnd.{JobEnd}
use Rattle.ingest_workers.specs.declared.workers.Worker.{Worker}
use Rattle.ingest_workers.proofs.running.gather.Given as goal

abbrev pub invariant-loop-i : goal.invariant-loop-i
invariant-loop-i g l = record {
  many : length l.ends.items ≡ l.i;
  room : length l.jobs ≤ vec_capacity l.ends;
  each : (place : ℕ) (j : Job) (d : Worker g.row.S.Denot) (e : JobEnd) → place < l.i
      → get_or l.ends.items place e ≡ get_or (slice_index_or l.workers ((get_or l.jobs place j).number % length l.workers) d).desk.ends.items place e;
}
