use Rattle.script_runner.proofs.Complete.{what_can_be_done_is_done}
use Rattle.script_runner.proofs.laws.what_can_be_done_is_done.Goals as goal

pub returns : goal.returns
returns c = what_can_be_done_is_done
