use Rattle.std.proofs.Common.{sym, ◌∙◌, ap, refl, arith}
use Rattle.script_lines.specs.Reader.{ReaderState}
use Rattle.script_lines.proofs.Taking.{none_ready, some_left, refilled, run_out}
use Rattle.script_lines.proofs.reader.ScriptReader.fill.Goals as goal

pub returns-in_ok-count-clause-takes : goal.returns-in_ok-count-clause-takes
returns-in_ok-count-clause-takes g c =
    refilled c.args.self.now _ _ _ c.read.new.into c.in_ok-count.count c.in_ok-count.ensures.bytes refl
    (ap (λ (r : ReaderState). r.ready) (sym c.self.view_is) ∙ none_ready c.self.inside.piece c.self.inside.at c.self.inside.end (omega arith))
    (ap (λ (r : ReaderState). r.taken) c.self.view_is)
    (omega (arith, ap (λ (r : ReaderState). r.taken) c.self.view_is))

pub returns-in_ok-count-clause-out : goal.returns-in_ok-count-clause-out
returns-in_ok-count-clause-out g c = λ none.
    run_out c.args.self.now _ _ _ c.read.new.into c.in_ok-count.count c.in_ok-count.ensures.bytes refl _ (omega (arith, c.in_ok-count.ensures.count)) (omega arith)
    c.in_ok-count.ensures.end none

pub returns-else-self-clause-out : goal.returns-else-self-clause-out
returns-else-self-clause-out g c = some_left c.args.self.now _ _ c.self.inside.piece c.self.inside.at c.self.inside.end (ap (λ (r : ReaderState). r.ready) c.self.view_is)
    (omega arith) (omega arith)
