use Rattle.backup_engine.proofs.Prelude.{ap}
use Rattle.actor_parts.specs.StepValue as asked
use Rattle.backup_engine.proofs.GiveRuns.{begin_giving, read_refused, read_ended, unwritten, written, fewer}
use Rattle.backup_engine.proofs.giving.give_out.Goals as goal

pub loop-ahead-init : goal.loop-ahead-init
loop-ahead-init g c =
    begin_giving _ g.C.HasState.state _ _ _ _ _ _ _ _ c.requires.fresh c.first.ensures (ap asked.OpenRead c.as_bytes.ensures.value) c.in_ok-make_step.ensures.step
    c.make_step.ensures.running

pub returns-in_err-count-clause-ran : goal.returns-in_err-count-clause-ran
returns-in_err-count-clause-ran g c =
    read_refused _ g.C.HasState.state _ _ _ _ _ _ c.loop-ahead.invariant _ _ c.first-in-loop-ahead.ensures _ _ c.from_residual-in_err-count.ensures.1 c.in_err-count.ensures.step

pub returns-in_default : goal.returns-in_default
returns-in_default g c = record {
  ran = read_ended _ g.C.HasState.state _ _ _ _ _ _ c.loop-ahead.invariant _ _ c.first-in-loop-ahead.ensures _ c.in_default.not-Bytes c.in_ok-count.ensures.step;
  running = c.next_ahead.ensures.running;
}

pub returns-then-is_err-clause-ran : goal.returns-then-is_err-clause-ran
returns-then-is_err-clause-ran g c =
    unwritten _ g.C.HasState.state _ _ _ _ _ _ c.loop-ahead.invariant _ _ c.first-in-loop-ahead.ensures _ _ c.in-Bytes.is c.in_ok-count.ensures.step _ _ _ c.bytes.ensures.value
    c.write_all.ensures c.if-is_err.ensures.value

pub loop-ahead-smaller : goal.loop-ahead-smaller
loop-ahead-smaller g c = fewer _ g.C.HasState.state _ _ _ _ _ _ c.loop-ahead.invariant _ _ c.first-in-loop-ahead.ensures _ _ c.in-Bytes.is c.in_ok-count.ensures.step

pub loop-ahead-preserved : goal.loop-ahead-preserved
loop-ahead-preserved g c =
    written _ g.C.HasState.state _ _ _ _ _ _ c.loop-ahead.invariant _ _ c.first-in-loop-ahead.ensures _ _ c.in-Bytes.is c.in_ok-count.ensures.step _ _ _ c.bytes.ensures.value
    c.write_all.ensures
    c.next_ahead.ensures.running c.if-is_err.ensures.value
