use Rattle.script_lines.proofs.Scripts.{read_by_line}
use Rattle.script_lines.proofs.script.scripts_are_read_by_line.Goals as goal

pub returns : goal.returns
returns c = read_by_line
