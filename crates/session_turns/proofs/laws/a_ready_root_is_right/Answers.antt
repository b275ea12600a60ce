use Rattle.session_turns.proofs.Ingested.{ingested_commit_is_right, ingested_root_is_right}
use Rattle.session_turns.proofs.RightRoot.{ready_root_is_right}
use Rattle.session_turns.proofs.laws.a_ready_root_is_right.Goals as goal

pub returns-clause-ready : goal.returns-clause-ready
returns-clause-ready g c = ready_root_is_right _ g.C.HasState.state

pub returns-clause-ingested : goal.returns-clause-ingested
returns-clause-ingested g c = ingested_root_is_right _ g.C.HasState.state

pub returns-clause-committed : goal.returns-clause-committed
returns-clause-committed g c = ingested_commit_is_right _ g.C.HasState.state
