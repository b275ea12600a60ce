use Rattle.session_turns.proofs.TurnSteps.{ingests_beside, stopped_turns_are_steps, turns_are_steps}
use Rattle.session_turns.proofs.laws.turns_are_given_right.Goals as goal

pub returns-clause-turns : goal.returns-clause-turns
returns-clause-turns g c = turns_are_steps _ g.C.HasState.state

pub returns-clause-stopped : goal.returns-clause-stopped
returns-clause-stopped g c = stopped_turns_are_steps _ g.C.HasState.state

pub returns-clause-beside : goal.returns-clause-beside
returns-clause-beside g c = ingests_beside
