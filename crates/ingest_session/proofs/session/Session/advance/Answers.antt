use Rattle.ingest_session.proofs.Prelude.{◌≡◌, length, rules, of_segment, the_view}
use Rattle.std.proofs.Common.{None}
use Rattle.ingest_session.proofs.Advancing.{is_advanced}
use Rattle.ingest_session.proofs.session.Session.advance.Goals as goal

pub returns-clause-ok : goal.returns-clause-ok
returns-clause-ok c =
    let none : c.self.inside.ahead ≡ None = search rules in
    let child : of_segment c.in_ok-seg.seg.segment.bytes ≡ record { digest = c.digest.result; length = length c.bytes.result.now } =
    search rules in
    rw (← c.self.view_is)
    (is_advanced (the_view c.self.inside) c.in_ok-seg.seg c.push.new.self none c.in_ok-seg.ensures
    (record {
      pushed = λ pushed taken holds. rw child (c.in_ok-push.ensures.pushed pushed taken holds);
      few = c.in_ok-push.ensures.added;
    }))
