use Rattle.ingest_session.proofs.Prelude.{ap, refl, rules}
use Rattle.ingest_session.specs.Buffers.{Waiting}
use Rattle.ingest_session.specs.History.{Begun}
use Rattle.ingest_session.proofs.Beginning.{new_is_session}
use Rattle.ingest_session.proofs.session.Session.new.Goals as goal

pub invariant_of-session : goal.invariant_of-session
invariant_of-session c =
    new_is_session _ _ _ _ _ _ _ _ c.requires.least c.requires.limit c.in_ok-new.ensures.empty c.in_ok-new-2.ensures c.in_ok-new-3.ensures c.in_ok-new-4.ensures
    c.in_ok-new-5.ensures c.in_ok-new-6.ensures c.in_ok-new-7.ensures

pub returns-clause-begun : goal.returns-clause-begun
returns-clause-begun c = record {
  count = refl;
  ongoing = refl;
  cut = c.in_ok-new.ensures.so_far;
  queue = ap (λ (q : Waiting). q.segments) c.in_ok-new-2.ensures;
  ahead = refl;
  line = c.in_ok-new-3.ensures;
  built = c.in_ok-new-4.ensures;
  top = refl;
  leaves = search rules;
  nodes = search rules;
  aside = c.in_ok-new-7.ensures;
  waits = refl;
}

pub returns-clause-history : goal.returns-clause-history
returns-clause-history c = Begun _ c.sound.ensures (returns-clause-begun c)
