use Rattle.std.proofs.Common.{◌≡◌, ℕ, List, ◌++◌, false, length, map}
use Rattle.segmenter.specs.Cutting.{HasCut}
use Rattle.segmenter.proofs.whole.cut_piece.Given as goal

-- `done` are the bytes of the piece that were taken
abbrev pub invariant-loop-rest : goal.invariant-loop-rest
invariant-loop-rest l = record {
  ongoing : l.cutter.whole ≡ false;
  so_far : (done : List ℕ) × (done ++ l.rest ≡ l.piece) × ((taken : List ℕ) →
      HasCut taken (map (λ segment. segment.items) l.initial.segments.items) l.initial.cutter →
      HasCut (taken ++ done) (map (λ segment. segment.items) l.segments.items) l.cutter);
}

abbrev pub decreases-loop-rest : goal.decreases-loop-rest
decreases-loop-rest l = length l.rest
