use Rattle.script_lines.proofs.Reading.{same_line}
use Rattle.script_lines.proofs.line.one_line.Goals as goal

pub returns : goal.returns
returns c = same_line
