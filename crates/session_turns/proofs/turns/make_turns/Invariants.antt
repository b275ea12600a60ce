use Rattle.std.proofs.Common.{◌≡◌, Ok}
use Rattle.ingest_session.specs.Work.{to_do}
use Rattle.session_turns.specs.Turning.{TakesTurnsBy, maker_of}
use Rattle.session_turns.proofs.turns.make_turns.Given as goal

abbrev pub invariant-loop : goal.invariant-loop
invariant-loop g l = record {
  running : g.C.MakesSteps.runs l.core;
  ended : l.session.ended ≡ l.initial.session.ended;
  count : l.session.count ≡ l.initial.session.count;
  most : l.session.most ≡ l.initial.session.most;
  turns : TakesTurnsBy (maker_of g.C.MakesSteps.runs g.C.MakesSteps.makes) l.actor {T = Unit {0}} (Ok tt) l.initial.session l.session l.initial.core l.core;
}

abbrev pub decreases-loop : goal.decreases-loop
decreases-loop g l = to_do l.session
