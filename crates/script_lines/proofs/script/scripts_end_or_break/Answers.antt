use Rattle.script_lines.proofs.Scripts.{end_or_break}
use Rattle.script_lines.proofs.script.scripts_end_or_break.Goals as goal

pub returns : goal.returns
returns c = end_or_break
