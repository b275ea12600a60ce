use Rattle.store_core.proofs.Prelude.{ℕ, Some, PlaceMap, HasPlaces, refl, sym, ap, subst}
use Rattle.store_core.proofs.Making.{made_unique}
use Rattle.store_core.proofs.running.Core.unique.Goals as goal

pub returns-clause-made : goal.returns-clause-made
returns-clause-made g c = λ stop count.
    let index : PlaceMap = c.args.self.now.index in
    made_unique index _ _ refl refl c.args.actor c.unique.result _ c.unique.ensures.counts c.unique.ensures.refused c.unique.ensures.failed c.unique.ensures.reads refl
    (ap Some c.unique.ensures.index)
    (λ served. subst (HasPlaces (g.D.Disk.view c.unique.new.disk).size) (sym c.unique.ensures.index)
    (subst (λ (size : ℕ). HasPlaces size index) (sym c.unique.ensures.reads.only.later.size_is) served))
