use Rattle.ingest_session.proofs.Prelude.{◌∙◌, ap}
use Rattle.std.specs.Prelude.{nat_lt}
use Rattle.ingest_session.proofs.KeyTimes.{key_found}
use Rattle.ingest_session.proofs.aside.Aside.has.Goals as goal

pub returns : goal.returns
returns c = rw (← c.self.view_is)
    (ap (nat_lt 0) (c.counted.ensures ∙ c.self.invariant.1.times c.args.key.now) ∙ key_found c.self.inside.containers.items c.args.key.now)
