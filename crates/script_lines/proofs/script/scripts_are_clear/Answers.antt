use Rattle.script_lines.proofs.Lines.{clear}
use Rattle.script_lines.proofs.script.scripts_are_clear.Goals as goal

pub returns : goal.returns
returns c = clear
