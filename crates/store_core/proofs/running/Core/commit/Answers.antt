use Rattle.store_core.proofs.Prelude.{ℕ, refl, sym, subst, HasPlaces}
use Rattle.store_core.proofs.Committing.{made_put}
use Rattle.store_core.proofs.running.Core.commit.Goals as goal

pub returns-in-Ok-clause-made : goal.returns-in-Ok-clause-made
returns-in-Ok-clause-made g c = λ buf stop count.
    made_put c.args.name.now c.args.root.now c.args.actor c.in-Ok.sequence buf _ _ c.in-Ok.ensures.ok c.in-Ok.ensures.disk c.in-Ok.ensures.moves c.in-Ok.ensures.same
    c.in-Ok.ensures.frame c.in-Ok.ensures.durable refl
    (λ served. subst (λ (size : ℕ). HasPlaces size c.args.self.now.index) (sym c.in-Ok.ensures.disk.later.size_is) served)
