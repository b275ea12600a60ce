use Rattle.std.proofs.Common.{ℕ, sym, subst}
use Rattle.container_meta.specs.declared.kind.Kind.{Kind}
use Rattle.container_meta.specs.Segments.{Segment}
use Rattle.actor_parts.specs.PinMap.{IsPin}
use Rattle.actor_parts.specs.Segments.{IsOfKind}
use Rattle.actor_parts.proofs.RightPins.{node_right}
use Rattle.actor_parts.proofs.unpinned.pin_in.Goals as goal

pub returns-in-Tree-clause-right : goal.returns-in-Tree-clause-right
returns-in-Tree-clause-right c long =
    let segment : Segment = record { level = c.args.level; bytes = c.args.bytes.now } in
    subst (λ (n : ℕ). IsPin (record { level = c.args.level; length = n })) (sym c.length_in.ensures)
    (node_right segment (subst (λ (k : Kind). IsOfKind k segment) c.in-Tree.is c.requires))
