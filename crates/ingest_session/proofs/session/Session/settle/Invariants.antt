use Rattle.ingest_session.proofs.Prelude.{◌≡◌, to_do, Settles}
use Rattle.ingest_session.specs.Settling.{seen}
use Rattle.ingest_session.proofs.session.Session.settle.Given as goal

abbrev pub invariant-loop : goal.invariant-loop
invariant-loop l = record {
  settles : Settles l.initial.self l.self;
  seen_is : seen l.self ≡ seen l.initial.self;
}

abbrev pub decreases-loop : goal.decreases-loop
decreases-loop l = to_do l.self
