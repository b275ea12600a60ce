use Rattle.script_lines.proofs.Taking.{passed}
use Rattle.script_lines.proofs.reader.ScriptReader.pass.Goals as goal

pub returns : goal.returns
returns c = passed c.args.self.now c.self.inside.piece _ c.self.inside.at c.self.inside.end c.self.inside.taken c.self.view_is
