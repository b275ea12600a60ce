use Rattle.ingest_session.proofs.Prelude.{◌≡◌, ◌≤◌, ◌+◌, ◌-◌, false, length, take, MOST_FILE, IsTaking}
use Rattle.ingest_session.proofs.session.Session.push.Given as goal
use Rattle.ingest_session.proofs.Cuts.{CutsFew}

abbrev pub invariant-loop-taken : goal.invariant-loop-taken
invariant-loop-taken l = record {
  within : l.taken ≤ length l.bytes;
  ongoing : l.initial.self.ended ≡ false;
  few : l.initial.self.count + length l.bytes ≤ MOST_FILE;
  none : l.taken ≡ 0 → l.self ≡ l.initial.self;
  few_cuts : CutsFew l.taken l.initial.self l.self;
  takes : IsTaking (take l.taken l.bytes) l.initial.self l.self;
}

abbrev pub decreases-loop-taken : goal.decreases-loop-taken
decreases-loop-taken l = length l.bytes - l.taken
