use Rattle.std.proofs.Common.{◌≡◌, ◌<◌, ◌≤◌, ℕ, suc, length, slice_index_or, vec_capacity}
use Rattle.shared_work.specs.Working.{IsNew}
use Rattle.shared_work.proofs.working.split_all.Given as goal

abbrev pub invariant-loop-worker : goal.invariant-loop-worker
invariant-loop-worker g l = record {
  pass : IsNew g.C.HasState.state l.core.value l.store 0 l.pass;
  many : length l.callers.items ≡ l.worker;
  room : l.count ≤ vec_capacity l.callers;
  each : (worker : ℕ) (d : _) → worker < l.worker → IsNew g.C.HasState.state l.core.value l.store (suc worker) (slice_index_or l.callers.items worker d).0;
}
