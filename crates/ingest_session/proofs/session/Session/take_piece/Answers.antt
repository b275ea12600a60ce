use Rattle.ingest_session.proofs.Prelude.{◌≡◌, true, ◌∙◌, rules, false, refl, the_view}
use Rattle.segmenter.proofs.RunLemmas.{shown_more}
use Rattle.ingest_session.proofs.Taking.{cut_off_is_session, cut_off_takes}
use Rattle.ingest_session.proofs.session.Session.take_piece.Goals as goal

pub invariant_of-self-2 : goal.invariant_of-self-2
invariant_of-self-2 c =
    let whole : c.push-step.result.whole ≡ true = search rules in
    let ongoing : c.self.inside.ended ≡ false = search rules in
    rw (c.next.ensures.whole (c.push-step.ensures.takes.whole ∙ whole), c.push.ensures, c.segment.ensures.bytes)
    (cut_off_is_session (the_view c.self.inside) c.args.bytes.now c.push-step.result c.push-step.new.self c.self.invariant ongoing
    (search rules) (search rules) c.push-step.ensures.takes whole (search rules) c.push-step.ensures.one)

pub returns-clause-takes : goal.returns-clause-takes
returns-clause-takes c =
    let whole : c.push-step.result.whole ≡ true = search rules in
    let ongoing : c.self.inside.ended ≡ false = search rules in
    let shows = c.push-step.ensures.takes.whole ∙ whole in
    rw (← c.self.view_is, c.next.ensures.whole shows, c.push.ensures, c.segment.ensures.bytes)
    (cut_off_takes (the_view c.self.inside) c.args.bytes.now c.push-step.result c.push-step.new.self c.self.invariant ongoing
    c.push-step.ensures.takes.within
    (λ given segments cut. rw (← c.next.ensures.whole shows, shown_more segments c.push-step.new.self.bytes c.push-step.new.self refl shows)
    (c.next.ensures.so_far _ _ (c.push-step.ensures.so_far given segments cut))))
