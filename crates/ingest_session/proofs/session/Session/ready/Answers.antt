use Rattle.ingest_session.proofs.Prelude.{◌≡◌, true, sym, subst, rules, the_view, HasHistory, SessionState}
use Rattle.ingest_session.proofs.Ends.{ready_root}
use Rattle.ingest_session.proofs.session.Session.ready.Goals as goal

pub returns-in-Some-clause-root : goal.returns-in-Some-clause-root
returns-in-Some-clause-root c = λ h has.
    let ended : c.self.inside.ended ≡ true = search rules in
    ready_root (the_view c.self.inside) c.in-Some.top h (subst (λ (s : SessionState). HasHistory s h) (sym c.self.view_is) has) ended c.in-Some.is
