use Rattle.ingest_session.proofs.Prelude.{◌≡◌, ◌∙◌, SessionState, true, sym, subst, puts_aside, the_view}
use Rattle.ingest_session.proofs.Puts.{put_is_session}
use Rattle.ingest_session.proofs.session.Session.put_aside.Goals as goal

pub invariant_of-self : goal.invariant_of-self
invariant_of-self c = rw (c.in_err-push.ensures.err, c.in_err-push.ensures.filled) c.self.invariant

pub invariant_of-self-2 : goal.invariant_of-self-2
invariant_of-self-2 c =
    put_is_session (the_view c.self.inside) c.push.new.filled c.push.new.self c.self.invariant (c.in_ok-push.ensures.empty ∙ c.in_ok-empty.ensures)
    c.in_ok-push.ensures.ok (subst (λ (s : SessionState). puts_aside s ≡ true) (sym c.self.view_is) c.requires.puts)
