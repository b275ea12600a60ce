use Rattle.std.proofs.Common.{◌∙◌}
use Rattle.script_lines.proofs.Taking.{on_err, same_told}
use Rattle.script_lines.proofs.reader.ScriptReader.next.Goals as goal

pub returns-in_err-next-clause-err : goal.returns-in_err-next-clause-err
returns-in_err-next-clause-err g c = on_err c.from_residual.result _ (c.in_err-next.ensures.err _ _ c.loop-next.invariant.in_line).takes

pub returns-in_err-next-clause-part : goal.returns-in_err-next-clause-part
returns-in_err-next-clause-part g c = (c.in_err-next.ensures.err _ _ c.loop-next.invariant.in_line).part

pub returns-in-Some-clause-next : goal.returns-in-Some-clause-next
returns-in-Some-clause-next g c =
    let view = g.S.Source.view in
    (same_told c.args.self.now c.go_on.new.self (view c.args.source.now).left (view c.go_on.new.source).left _ _ c.in-Some.is
    (c.in_ok-next.ensures.told _ _ c.loop-next.invariant.in_line)).0

pub returns-in-Some-clause-part : goal.returns-in-Some-clause-part
returns-in-Some-clause-part g c =
    let view = g.S.Source.view in
    (same_told c.args.self.now c.go_on.new.self (view c.args.source.now).left (view c.go_on.new.source).left _ _ c.in-Some.is
    (c.in_ok-next.ensures.told _ _ c.loop-next.invariant.in_line)).1

pub loop-next-preserved : goal.loop-next-preserved
loop-next-preserved g c =
    let view = g.S.Source.view in
    record {
      in_line = same_told c.args.self.now c.go_on.new.self (view c.args.source.now).left (view c.go_on.new.source).left _ _ c.in_default.is
          (c.in_ok-next.ensures.told _ _ c.loop-next.invariant.in_line);
      faults = c.in_ok-next.ensures.cause.done ∙ c.loop-next.invariant.faults;
    }
