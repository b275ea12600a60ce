use Rattle.core_machine.proofs.Opened.{opened_refines, unopened_refines}
use Rattle.core_machine.proofs.an_opening_is_the_machines.Goals as goal

pub returns-clause-opened : goal.returns-clause-opened
returns-clause-opened g c = opened_refines _ g.D.Disk.view _ g.C.HasState.state

pub returns-clause-reopened : goal.returns-clause-reopened
returns-clause-reopened g c = opened_refines _ (λ x. (g.C.HasState.state x).disk) _ g.C.HasState.state

pub returns-clause-unopened : goal.returns-clause-unopened
returns-clause-unopened g c = unopened_refines _ (λ x. (g.C.HasState.state x).disk) _ g.C.HasState.state
