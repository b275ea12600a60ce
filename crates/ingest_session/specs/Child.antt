-- The children of a node, by their keys.
use Rattle.std.specs.Prelude.{Bool}
use Rattle.std.specs.List.{list_any}
use Rattle.base_model.specs.Bytes.{key_of}
use Rattle.container_meta.specs.Format.{kind_byte}
use Rattle.container_meta.specs.Segments.{Contents, has_key}
use Rattle.merkle_file.specs.Node as node
use Rattle.actor_parts.specs.Segments.{child_kind}

-- a child of a node lies in a container
abbrev pub has_child_of : Contents → node.Contents → Bool
has_child_of filled n = list_any (λ c. has_key filled (key_of (kind_byte (child_kind n.level)) c.digest)) n.children
