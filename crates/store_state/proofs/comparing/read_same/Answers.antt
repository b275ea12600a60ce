use Rattle.std.proofs.Common.{sym, subst}
use Rattle.container_meta.specs.declared.kind.Kind.{Kind}
use Rattle.dd_disk.proofs.Shows.{always}
use Rattle.store_state.specs.Comparing.{FitsBytes}
use Rattle.store_state.proofs.comparing.read_same.Goals as goal

pub returns-in-Leaf-clause-same : goal.returns-in-Leaf-clause-same
returns-in-Leaf-clause-same g c =
    let view = g.D.Disk.view in
    always (view c.args.disk.now) (view c.args.disk.now) (FitsBytes c.args.kind c.args.offered.now c.args.place.now)
    (λ image sized. subst (λ (k : Kind). FitsBytes k c.args.offered.now c.args.place.now image) (sym c.in-Leaf.is) c.in_ok-same_length.ensures.same)
