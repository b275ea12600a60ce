use Rattle.std.proofs.Common.{◌≡◌, Ok}
use Rattle.ingest_session.specs.Work.{to_do}
use Rattle.session_turns.specs.Turning.{MakesRoomBy, maker_of}
use Rattle.session_turns.proofs.turns.make_room.Given as goal

abbrev pub invariant-loop-actor : goal.invariant-loop-actor
invariant-loop-actor g l = record {
  running : g.C.MakesSteps.runs l.core;
  ended : l.session.ended ≡ l.initial.session.ended;
  count : l.session.count ≡ l.initial.session.count;
  most : l.session.most ≡ l.initial.session.most;
  turns : MakesRoomBy (maker_of g.C.MakesSteps.runs g.C.MakesSteps.makes) l.actor {T = Unit {0}} (Ok tt) l.initial.session l.session l.initial.core l.core;
}

abbrev pub decreases-loop-actor : goal.decreases-loop-actor
decreases-loop-actor g l = to_do l.session
