use Rattle.script_runner.proofs.DeskLines as desks
use Rattle.script_runner.proofs.laws.lines_are_runs.Goals as goal

pub returns-clause-lines : goal.returns-clause-lines
returns-clause-lines g c = desks.lines_are_runs _ g.C.HasState.state

pub returns-clause-scripts : goal.returns-clause-scripts
returns-clause-scripts g c = desks.scripts_are_runs _ g.C.HasState.state

pub returns-clause-begins : goal.returns-clause-begins
returns-clause-begins g c = desks.begins_at_desk _ g.C.HasState.state

pub returns-clause-opened : goal.returns-clause-opened
returns-clause-opened g c = desks.opened_runs_by_roots _ g.C.HasState.state _ g.D.Disk.view
