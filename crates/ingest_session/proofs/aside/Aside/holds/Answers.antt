use Rattle.ingest_session.proofs.Prelude.{◌∙◌, ap, sym, subst, AllByRecursion, key_of}
use Rattle.ingest_session.specs.Sound.{IsAside}
use Rattle.ingest_session.proofs.KeyTimes.{not_found}
use Rattle.ingest_session.proofs.aside.Aside.holds.Goals as goal

pub returns-in-None : goal.returns-in-None
returns-in-None c =
    rw (← c.self.view_is)
    (not_found c.self.inside.counts c.self.inside.containers.items c.args.seg.now.segment c.key_of.result c.self.invariant.1
    (subst (AllByRecursion IsAside) (sym c.self.view_is) c.requires.data) (c.key_of.ensures ∙ ap (key_of 0) c.digest.ensures) (sym c.in-None.is ∙ c.get.ensures))
