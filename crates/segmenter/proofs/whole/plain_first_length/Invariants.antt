use Rattle.segmenter.specs.Cutting.{NoBoundary}
use Rattle.segmenter.proofs.whole.plain_first_length.Given as goal

abbrev pub invariant-loop-n : goal.invariant-loop-n
invariant-loop-n l = NoBoundary l.bytes l.n
