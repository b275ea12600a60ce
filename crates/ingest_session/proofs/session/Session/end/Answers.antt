use Rattle.ingest_session.proofs.Prelude.{◌≡◌, ◌≤◌, ◌∙◌, true, false, length, sym, ap, rules, Hand, empty_hand, the_view}
use Rattle.ingest_session.proofs.AtEnd.{ended_before_last, ended_with_rest}
use Rattle.ingest_session.proofs.session.Session.end.Goals as goal

pub invariant_of-self : goal.invariant_of-self
invariant_of-self c =
    let ongoing : c.self.inside.ended ≡ false = search rules in
    let whole : c.finish.new.self.whole ≡ true = search rules in
    let some : 1 ≤ length c.segment.result.now = search rules in
    rw (c.next.ensures.whole whole, c.push.ensures)
    (ended_with_rest (the_view c.self.inside) c.self.invariant ongoing c.segment.result.now (search rules) some c.segment.ensures.at_most)

pub invariant_of-self-then-not-has_all : goal.invariant_of-self-then-not-has_all
invariant_of-self-then-not-has_all c =
    let ongoing : c.self.inside.ended ≡ false = search rules in
    let none : c.finish.new.self ≡ empty_hand = search rules in
    let bytes = sym c.finish.ensures.bytes ∙ ap (λ (h : Hand). h.bytes) none in
    rw none (ended_before_last (the_view c.self.inside) c.self.invariant ongoing bytes (search rules))
