use Rattle.script_runner.proofs.FaultsCounted as faults
use Rattle.script_runner.proofs.laws.lines_go_on.Goals as goal

pub returns : goal.returns
returns g c = faults.lines_go_on _ g.C.HasState.state
