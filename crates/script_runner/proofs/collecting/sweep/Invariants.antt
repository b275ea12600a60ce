use Rattle.script_runner.proofs.Prelude.{◌≡◌, List, None, Phase, IsRunning, CollectionRun}
use Rattle.script_runner.proofs.Sweeping.{IsFewIn, left_in, most_in}
use Rattle.script_runner.proofs.collecting.sweep.Given as goal

abbrev pub invariant-steps : goal.invariant-steps
invariant-steps g l = record {
  running : IsRunning (g.C.HasState.state l.core);
  runs : (g.C.HasState.state l.core).stop ≡ None;
  few : IsFewIn (most_in (g.C.HasState.state l.initial.core)) (g.C.HasState.state l.core);
  made : (phases : List Phase) × CollectionRun _ g.C.HasState.state phases l.initial.core l.core;
}

abbrev pub decreases-steps : goal.decreases-steps
decreases-steps g l = left_in (most_in (g.C.HasState.state l.initial.core)) (g.C.HasState.state l.core)
