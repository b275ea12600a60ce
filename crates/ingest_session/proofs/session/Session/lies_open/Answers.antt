use Rattle.ingest_session.proofs.Prelude.{◌∙◌, Bool, sym, ap, has_key, or_left, the_view}
use Rattle.std.proofs.Common.{◌||◌}
use Rattle.ingest_session.proofs.Gathered.{key_gathered}
use Rattle.ingest_session.proofs.session.Session.lies_open.Goals as goal

pub returns-then-has : goal.returns-then-has
returns-then-has c =
    rw (← c.self.view_is, c.in-Leaf.is)
    (c.if-has.true ∙ sym (key_gathered (the_view c.self.inside) c.self.invariant c.args.key.now ∙ or_left _ _ (sym c.has.ensures ∙ c.if-has.true)))

pub returns-else-has : goal.returns-else-has
returns-else-has c =
    rw (← c.self.view_is, c.in-Leaf.is)
    (c.has-else-has.ensures
    ∙ sym (key_gathered (the_view c.self.inside) c.self.invariant c.args.key.now
    ∙ ap (λ (b : Bool). b || has_key c.self.inside.leaves c.args.key.now) (sym c.has.ensures ∙ c.if-has.false)))
