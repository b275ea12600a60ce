use Rattle.std.proofs.Common.{◌≡◌, ◌∙◌}
use Rattle.base_model.proofs.Outcome.{map_ok}
use Rattle.container_meta.specs.Segments.{KindSegment}
use Rattle.container_meta.specs.declared.kind.Kind.TheVariants.{Tree}
use Rattle.actor_parts.specs.Segments.{IsStepSegment}
use Rattle.actor_parts.proofs.Nodes.{node_is_step_segment}
use Rattle.actor_parts.proofs.tree_seg.node_seg.Goals as goal

pub returns-clause-right : goal.returns-clause-right
returns-clause-right c =
    map_ok c.tree.result _ IsStepSegment
    (λ (s : KindSegment) (is : s ≡ record { kind = Tree; segment = record { level = c.level.result; bytes = c.deref.result.now } }).
    node_is_step_segment c.args.node.now c.level.result c.deref.result.now s c.level.ensures.right c.level.ensures.value (c.deref.ensures.value ∙ c.in_ok-bytes.ensures) is)
    c.tree.ensures
