use Rattle.std.proofs.Common.{sym, ◌∙◌, ap, arith}
use Rattle.script_lines.specs.Reader.{ReaderState}
use Rattle.script_lines.proofs.Taking.{first_ready}
use Rattle.script_lines.proofs.reader.ScriptReader.first.Goals as goal

pub returns-then-self-clause-some : goal.returns-then-self-clause-some
returns-then-self-clause-some c = (
  _,
  ap (λ (r : ReaderState). r.ready) (sym c.self.view_is)
      ∙ first_ready c.self.inside.piece c.self.inside.at c.self.inside.end c.if-self.true (omega arith),
)
