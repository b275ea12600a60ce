use Rattle.script_runner.proofs.FileFits as files
use Rattle.script_runner.proofs.laws.lines_are_file_runs.Goals as goal

pub returns-clause-lines : goal.returns-clause-lines
returns-clause-lines g c = files.lines_are_file_runs _ g.C.HasState.state

pub returns-clause-scripts : goal.returns-clause-scripts
returns-clause-scripts g c = files.scripts_are_file_runs _ g.C.HasState.state

pub returns-clause-begins : goal.returns-clause-begins
returns-clause-begins g c = files.begins_at_file_desk _ g.C.HasState.state
