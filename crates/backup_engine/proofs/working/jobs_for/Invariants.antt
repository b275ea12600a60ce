use Rattle.std.proofs.Common.{◌≡◌, ◌≤◌, length}
use Rattle.std.specs.Prelude.{vec_capacity}
use Rattle.backup_engine.specs.LineValue.{load_value}
use Rattle.backup_engine.specs.Working.{jobs_from}
use Rattle.backup_engine.proofs.working.jobs_for.Given as goal

abbrev pub invariant-loop-number : goal.invariant-loop-number
invariant-loop-number l = record {
  items : l.jobs.items ≡ jobs_from (load_value l.fn.load) 0 l.number;
  many : length l.jobs.items ≡ l.number;
  room : l.fn.load.files ≤ vec_capacity l.jobs;
}
