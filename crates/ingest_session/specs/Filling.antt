-- A container with one more segment.
use Rattle.std.specs.Prelude.{[], ◌∷◌, ◌++◌}
use Rattle.container_meta.specs.Segments.{Contents, Segment}

abbrev pub with_segment : Contents → Segment → Contents
with_segment filled segment = record filled { segments = filled.segments ++ segment ∷ [] }
