use Rattle.ingest_session.proofs.Prelude.{◌≡◌, true, IsSome, inr, length, rules, the_view}
use Rattle.std.proofs.Common.{None}
use Rattle.ingest_session.proofs.Advancing.{is_closing}
use Rattle.ingest_session.proofs.session.Session.close.Goals as goal

pub returns-clause-ok : goal.returns-clause-ok
returns-clause-ok c =
    let none : c.self.inside.top ≡ None = search rules in
    let ended : c.self.inside.ended ≡ true = search rules in
    let some : IsSome c.self.inside.ahead = search rules in
    let one : length c.self.inside.queue.segments ≡ 1 = search rules in
    inr (rw (← c.self.view_is)
    (is_closing (the_view c.self.inside) c.in_ok-top.top c.finish.new.self none ended some one
    (record {
      all = λ pushed taken holds. (c.in_ok-top.ensures.top pushed taken holds, c.in_ok-top.ensures.nodes pushed taken holds);
      few = c.in_ok-top.ensures.added;
    })))
