use Rattle.backup_engine.proofs.Prelude.{◌≡◌, ◌-◌, false, MOST_FILE, IsRunning}
use Rattle.backup_engine.proofs.Filling.{FilledSoFar}
use Rattle.backup_engine.proofs.storing.fill.Given as goal

abbrev pub invariant-loop-count : goal.invariant-loop-count
invariant-loop-count g l = record {
  running : IsRunning (g.C.HasState.state l.core);
  ongoing : l.session.ended ≡ false;
  so_far : FilledSoFar _ g.C.HasState.state l.fn.session l.session l.fn.core l.core (g.S.Source.view l.fn.source) (g.S.Source.view l.source);
}

abbrev pub decreases-loop-count : goal.decreases-loop-count
decreases-loop-count g l = MOST_FILE - l.session.count
