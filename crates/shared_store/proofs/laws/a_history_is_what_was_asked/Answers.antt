use Rattle.shared_store.specs.Made.{MakesStep, actor_in}
use Rattle.shared_store.proofs.Legality.{are_steps}
use Rattle.shared_store.proofs.Tellings.{are_told, asks_are_told, tells_none, tells_on}
use Rattle.shared_store.proofs.laws.a_history_is_what_was_asked.Goals as goal

pub returns-clause-asked : goal.returns-clause-asked
returns-clause-asked g c = asks_are_told g.C.HasState.state

pub returns-clause-stays : goal.returns-clause-stays
returns-clause-stays g c = tells_on actor_in (MakesStep g.C.HasState.state)

pub returns-clause-none : goal.returns-clause-none
returns-clause-none g c = tells_none actor_in (MakesStep g.C.HasState.state)

pub returns-clause-told : goal.returns-clause-told
returns-clause-told g c = are_told actor_in (MakesStep g.C.HasState.state)

pub returns-clause-steps : goal.returns-clause-steps
returns-clause-steps g c = are_steps g.C.HasState.state
