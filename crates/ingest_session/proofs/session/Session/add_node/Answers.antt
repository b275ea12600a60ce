use Rattle.ingest_session.proofs.Prelude.{rules, first_of}
use Rattle.ingest_session.proofs.Fitting.{can_add_node}
use Rattle.ingest_session.proofs.session.Session.add_node.Goals as goal

pub add_to-requires-clause-can : goal.add_to-requires-clause-can
add_to-requires-clause-can c =
    can_add_node c.self.inside.nodes c.self.inside.spelled c.self.inside.ahead (first_of c.self.inside.line) c.self.invariant.tree_kind c.self.invariant.spelled
    (λ m is. search rules)
