use Rattle.store_core.proofs.KeepingSegments.{keeps_segments, stays_held}
use Rattle.store_core.proofs.laws.a_core_keeps_segments.Goals as goal

pub returns-clause-kept : goal.returns-clause-kept
returns-clause-kept g c = keeps_segments _ g.C.HasState.state

pub returns-clause-held : goal.returns-clause-held
returns-clause-held g c = stays_held _ g.C.HasState.state
