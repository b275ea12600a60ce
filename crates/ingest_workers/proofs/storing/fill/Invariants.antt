use Rattle.std.proofs.Common.{◌≡◌, ◌-◌, false, length}
use Rattle.ingest_workers.specs.Working.{IsUnderWay}
use Rattle.ingest_workers.proofs.storing.fill.Given as goal

abbrev pub invariant-loop-piece : goal.invariant-loop-piece
invariant-loop-piece g l = record {
  ongoing : l.session.ended ≡ false;
  count : l.session.count ≡ l.stream.given;
  stream : l.stream ≡ record l.initial.stream { given = l.stream.given };
  under : (start : g.row.S.Denot) (under : IsUnderWay {S = g.row.S.Denot} g.S.StoreCalls.asks l.initial.stream start l.initial.session l.initial.caller)
      → length under.history.given ≡ 0
      → (now : IsUnderWay {S = g.row.S.Denot} g.S.StoreCalls.asks l.initial.stream start l.session l.caller) × (length now.history.given ≡ l.stream.given);
}

abbrev pub decreases-loop-piece : goal.decreases-loop-piece
decreases-loop-piece g l = l.stream.length - l.stream.given
