use Rattle.core_machine.proofs.FileOpened.{files_opened, files_reopened_not, files_unopened}
use Rattle.core_machine.proofs.an_opening_finds_its_files.Goals as goal

pub returns-clause-opened : goal.returns-clause-opened
returns-clause-opened g c = files_opened _ g.D.Disk.view _ g.C.HasState.state

pub returns-clause-reopened : goal.returns-clause-reopened
returns-clause-reopened g c = files_opened _ (λ x. (g.C.HasState.state x).disk) _ g.C.HasState.state

pub returns-clause-unopened : goal.returns-clause-unopened
returns-clause-unopened g c = files_unopened _ g.D.Disk.view

pub returns-clause-unopened_again : goal.returns-clause-unopened_again
returns-clause-unopened_again g c = files_reopened_not _ g.C.HasState.state
