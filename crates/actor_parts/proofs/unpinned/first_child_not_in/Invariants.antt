use Rattle.std.proofs.Common.{◌≡◌, drop, map}
use Rattle.merkle_file.specs.Reading.{contents_in}
use Rattle.actor_parts.specs.Segments.{child_pin, first_not_in}
use Rattle.actor_parts.proofs.unpinned.first_child_not_in.Given as goal

abbrev pub invariant-loop-index : goal.invariant-loop-index
invariant-loop-index l =
    first_not_in l.pins (map (child_pin l.level) (contents_in l.bytes).children)
    ≡ first_not_in l.pins (map (child_pin l.level) (drop l.index (contents_in l.bytes).children))
