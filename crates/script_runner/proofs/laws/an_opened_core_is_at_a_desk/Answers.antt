use Rattle.script_runner.proofs.FileFits.{opened_is_at_desk}
use Rattle.script_runner.proofs.laws.an_opened_core_is_at_a_desk.Goals as goal

pub returns : goal.returns
returns g c = opened_is_at_desk _ g.D.Disk.view _ g.C.HasState.state
