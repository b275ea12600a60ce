use Rattle.gc_enumerate.proofs.Marks.{marks_none, marks_more, marks_some, on_err}
use Rattle.gc_enumerate.proofs.live.Live.mark_all.Goals as goal

pub loop-one-init : goal.loop-one-init
loop-one-init c = marks_none c.args.self.now

pub loop-one-preserved : goal.loop-one-preserved
loop-one-preserved c =
    marks_more c.args.found.now c.loop-one.one-index _ c.args.self.now c.loop-one.self c.mark.new.self c.loop-one-test.true c.loop-one.invariant c.in_ok-mark.ensures.ok

pub returns-in_err-mark-clause-err : goal.returns-in_err-mark-clause-err
returns-in_err-mark-clause-err c =
    on_err c.from_residual.result (marks_some c.args.found.now c.loop-one.one-index c.args.self.now c.loop-one.self c.mark.new.self c.in_err-mark.ensures.err c.loop-one.invariant)
