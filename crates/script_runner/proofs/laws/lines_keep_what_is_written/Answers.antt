use Rattle.script_runner.proofs.LinesFrame.{lines_keep, opened_is_on}
use Rattle.script_runner.proofs.laws.lines_keep_what_is_written.Goals as goal

pub returns-clause-lines : goal.returns-clause-lines
returns-clause-lines g c = lines_keep _ g.C.HasState.state

pub returns-clause-opened : goal.returns-clause-opened
returns-clause-opened g c = opened_is_on _ g.D.Disk.view _ g.C.HasState.state
