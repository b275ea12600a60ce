use Rattle.script_lines.proofs.Telling.{reads}
use Rattle.script_lines.proofs.reader.reads_tell_scripts.Goals as goal

pub returns : goal.returns
returns c = reads
