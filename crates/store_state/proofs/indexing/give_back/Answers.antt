use Rattle.std.proofs.Common.{Option, subst}
use Rattle.std.specs.Prelude.{IfSome, IsSome}
use Rattle.std.specs.FinMap as finite
use Rattle.container_meta.specs.declared.place.Place.{Place}
use Rattle.segment_index.specs.Places.{KnownMap}
use Rattle.store_state.proofs.Indexed.{lacked}
use Rattle.store_state.proofs.indexing.give_back.Goals as goal

pub returns-in-Some-clause-memory : goal.returns-in-Some-clause-memory
returns-in-Some-clause-memory g c = λ none.
    let known = g.X.Index.places c.args.index.now (g.D.Disk.view c.args.disk.now).content in
    let there : KnownMap known (λ m. IsSome (finite.get m c.args.key.now)) =
    subst (λ (o : Option Place). IfSome o (λ _. KnownMap known (λ m. IsSome (finite.get m c.args.key.now)))) c.in-Some.is c.requires.there in
    (c.put.ensures.memory none, lacked _ c.args.key.now there (c.put.ensures.absent none))
