use Rattle.std.proofs.Common.{◌≡◌, OnOk, OnErr, None, subst}
use Rattle.std.specs.FinMap as finite
use Rattle.gc_enumerate.specs.Live.{LiveKeys}
use Rattle.gc_enumerate.proofs.Kept.{marked, marked_live, not_live}
use Rattle.gc_enumerate.proofs.live.Live.mark.Goals as goal

pub returns-clause-ok : goal.returns-clause-ok
returns-clause-ok c =
    marked c.insert.result c.args.self.now c.insert.new.self c.args.key.now c.args.place.now
    (subst (λ (live : LiveKeys). OnOk c.insert.result (c.insert.new.self ≡ finite.insert live c.args.key.now tt)) c.self.view_is c.insert.ensures.ok)

pub returns-clause-absent : goal.returns-clause-absent
returns-clause-absent c =
    not_live c.insert.result c.args.self.now c.args.key.now c.args.place.now
    (subst (λ (live : LiveKeys). OnErr c.insert.result (finite.get live c.args.key.now ≡ None)) c.self.view_is c.insert.ensures.absent)

pub returns-clause-marked : goal.returns-clause-marked
returns-clause-marked c = marked_live c.insert.result c.args.self.now c.insert.new.self c.args.key.now c.args.place.now (returns-clause-ok c)
