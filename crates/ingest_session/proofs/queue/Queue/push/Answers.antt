use Rattle.ingest_session.proofs.Prelude.{[], ◌∷◌, ap, sym, subst}
use Rattle.ingest_session.specs.Buffers.{AreDigests, Waiting}
use Rattle.ingest_session.proofs.Digests.{kept_stay}
use Rattle.ingest_session.proofs.queue.Queue.push.Goals as goal

pub invariant_of-self : goal.invariant_of-self
invariant_of-self c =
    subst (AreDigests c.self.inside.kept.items) (sym (ap (λ (w : Waiting). w.segments) c.push.ensures))
    (kept_stay c.self.inside.kept.items c.self.inside.waiting.segments (c.args.segment.now ∷ []) c.self.invariant)
