use Rattle.std.proofs.Common.{◌≡◌, ◌++◌, length, map}
use Rattle.segmenter.specs.Segments.{segments_of}
use Rattle.segmenter.proofs.whole.segments_plainly.Given as goal

-- the segments so far, and then those of the rest, are those of all bytes
abbrev pub invariant-loop-rest : goal.invariant-loop-rest
invariant-loop-rest l = map (λ segment. segment.items) l.segments.items ++ segments_of l.rest ≡ segments_of l.bytes

abbrev pub decreases-loop-rest : goal.decreases-loop-rest
decreases-loop-rest l = length l.rest
