use Rattle.ingest_session.proofs.Prelude.{subst, IsSession}
use Rattle.ingest_session.proofs.SealsSome.{is_offer, offer_kinds, offer_right}
use Rattle.ingest_session.proofs.session.Session.filled.Goals as goal

pub returns-in-Leaf-clause-offer : goal.returns-in-Leaf-clause-offer
returns-in-Leaf-clause-offer c = λ settled due. is_offer c.args.self.now c.args.kind (subst IsSession c.self.view_is c.self.invariant) settled due

pub returns-in-Leaf-clause-kind : goal.returns-in-Leaf-clause-kind
returns-in-Leaf-clause-kind c = offer_kinds c.args.self.now c.args.kind (subst IsSession c.self.view_is c.self.invariant)

pub returns-in-Leaf-clause-right : goal.returns-in-Leaf-clause-right
returns-in-Leaf-clause-right c = offer_right c.args.self.now c.args.kind (subst IsSession c.self.view_is c.self.invariant)

pub returns-in-Tree-clause-offer : goal.returns-in-Tree-clause-offer
returns-in-Tree-clause-offer c = λ settled due. is_offer c.args.self.now c.args.kind (subst IsSession c.self.view_is c.self.invariant) settled due

pub returns-in-Tree-clause-kind : goal.returns-in-Tree-clause-kind
returns-in-Tree-clause-kind c = offer_kinds c.args.self.now c.args.kind (subst IsSession c.self.view_is c.self.invariant)

pub returns-in-Tree-clause-right : goal.returns-in-Tree-clause-right
returns-in-Tree-clause-right c = offer_right c.args.self.now c.args.kind (subst IsSession c.self.view_is c.self.invariant)
