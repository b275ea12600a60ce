use Rattle.session_turns.proofs.HeldOn.{holds_begun, holds_beside, holds_turned}
use Rattle.session_turns.proofs.Ingested.{holds_ingested}
use Rattle.session_turns.proofs.laws.an_actor_holds_what_is_kept.Goals as goal

pub returns-clause-beside : goal.returns-clause-beside
returns-clause-beside g c = holds_beside _ g.C.HasState.state

pub returns-clause-begun : goal.returns-clause-begun
returns-clause-begun g c = holds_begun _ g.C.HasState.state

pub returns-clause-turned : goal.returns-clause-turned
returns-clause-turned g c = holds_turned _ g.C.HasState.state

pub returns-clause-ingested : goal.returns-clause-ingested
returns-clause-ingested g c = holds_ingested _ g.C.HasState.state
