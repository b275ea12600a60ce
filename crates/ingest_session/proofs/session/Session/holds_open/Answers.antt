use Rattle.ingest_session.proofs.Prelude.{◌∙◌, Bool, sym, ap, or_left, the_view}
use Rattle.std.proofs.Common.{◌||◌}
use Rattle.container_meta.specs.Segments.{has_segment}
use Rattle.ingest_session.proofs.Gathered.{segment_gathered}
use Rattle.ingest_session.proofs.session.Session.holds_open.Goals as goal

pub returns-then-holds : goal.returns-then-holds
returns-then-holds c =
    rw (← c.self.view_is, c.in-Leaf.is)
    (c.if-holds.true
    ∙ sym (segment_gathered (the_view c.self.inside) c.args.seg.now.segment ∙ or_left _ _ (sym c.holds.ensures ∙ c.if-holds.true)))

pub returns-else-holds : goal.returns-else-holds
returns-else-holds c =
    rw (← c.self.view_is, c.in-Leaf.is)
    (c.holds-else-holds.ensures
    ∙ sym (segment_gathered (the_view c.self.inside) c.args.seg.now.segment
    ∙ ap (λ (b : Bool). b || has_segment c.self.inside.leaves c.args.seg.now.segment) (sym c.holds.ensures ∙ c.if-holds.false)))
