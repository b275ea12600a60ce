-- The segment of a node may stand in a step.
use Rattle.std.proofs.Common.{◌≡◌, ◌∙◌, ℕ, List, sym, subst, ap}
use Rattle.container_meta.specs.Segments.{KindSegment}
use Rattle.container_meta.specs.declared.kind.Kind.TheVariants.{Tree}
use Rattle.merkle_file.specs.Node.{Contents, IsNode, spelling}
use Rattle.merkle_file.specs.Reading.{IsNodeBytes, contents_in}
use Rattle.merkle_file.proofs.InPlace.{read_again}
use Rattle.actor_parts.specs.Segments.{IsStepSegment}

pub node_is_step_segment : (n : Contents) (level : ℕ) (bytes : List ℕ) (s : KindSegment) → IsNode n → level ≡ n.level → bytes ≡ spelling n
    → s ≡ record { kind = Tree; segment = record { level = level; bytes = bytes } } → IsStepSegment s
node_is_step_segment n level bytes s right level_is bytes_is is =
    let again = read_again n right in
    subst IsStepSegment (sym is) (record {
      bytes = subst IsNodeBytes (sym bytes_is) again.0;
      level = level_is ∙ ap (λ (m : Contents). m.level) (sym again.1) ∙ ap (λ (b : List ℕ). (contents_in b).level) (sym bytes_is);
    })
