use Rattle.backup_engine.proofs.Prelude.{◌∙◌, rules}
use Rattle.backup_engine.proofs.Filling.{fill_ended, fill_failed, fill_on, fill_refused, none_filled}
use Rattle.backup_engine.proofs.storing.fill.Goals as goal

pub loop-count-init : goal.loop-count-init
loop-count-init g c = record {
  running = c.requires.running;
  ongoing = c.requires.ongoing;
  so_far = none_filled _ g.C.HasState.state c.args.session.now c.args.core.now (g.S.Source.view c.args.source.now) c.requires.ongoing;
}

pub returns-in_default-clause-fills : goal.returns-in_default-clause-fills
returns-in_default-clause-fills g c = fill_failed _ g.C.HasState.state _ _ _ _ _ _ c.loop-count.invariant.so_far _ c.in_default.ensures.err c.in_default.ensures.cause.failed

pub returns-then-count-eq0-clause-fills : goal.returns-then-count-eq0-clause-fills
returns-then-count-eq0-clause-fills g c =
    let read = c.in-Ok.ensures in
    rw c.hash.ensures
    (fill_ended _ g.C.HasState.state _ _ _ _ _ _ c.loop-count.invariant.so_far _ _ _ read.bytes read.cause.done c.if-count-eq0.true
    (read.end c.if-count-eq0.true (search rules)))

pub loop-count-preserved : goal.loop-count-preserved
loop-count-preserved g c =
    let read = c.in-Ok.ensures in
    let fed = c.in_ok-feed.ensures in
    record {
      running = fed.running;
      ongoing = rw c.hash_full.ensures (fed.ended ∙ c.loop-count.invariant.ongoing);
      so_far = rw c.hash_full.ensures (fill_on _ g.C.HasState.state _ _ _ _ _ _ c.loop-count.invariant.so_far _ _ _ read.bytes read.cause.done
          c.sessions_have_laws.ensures c.can_be_pushed.ensures _
          c.first.ensures _ _ fed.feeds fed.ended);
    }

pub returns-in_err-feed-clause-fills : goal.returns-in_err-feed-clause-fills
returns-in_err-feed-clause-fills g c =
    let read = c.in-Ok.ensures in
    fill_refused _ g.C.HasState.state _ _ _ _ _ _ c.loop-count.invariant.so_far _ _ _ read.bytes read.cause.done c.sessions_have_laws.ensures c.can_be_pushed.ensures _
    c.first.ensures _ _ _ _ c.from_residual.ensures.1
    c.in_err-feed.ensures.feeds
