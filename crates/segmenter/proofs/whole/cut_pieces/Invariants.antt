use Rattle.std.proofs.Common.{◌≡◌, false, map, take}
use Rattle.std.specs.List.{flat_map}
use Rattle.segmenter.specs.Cutting.{HasCut}
use Rattle.segmenter.proofs.whole.cut_pieces.Given as goal

abbrev pub invariant-loop-piece : goal.invariant-loop-piece
invariant-loop-piece l = record {
  ongoing : l.cutter.whole ≡ false;
  so_far : HasCut (flat_map (λ piece. piece.items) (take l.piece-index l.pieces)) (map (λ segment. segment.items) l.segments.items) l.cutter;
}
