use Rattle.merkle_file.proofs.Prelude.{◌≡◌, ◌+◌, drop, total, contents_in}
use Rattle.merkle_file.proofs.in_place.length_in.Given as goal

abbrev pub invariant-loop-index : goal.invariant-loop-index
invariant-loop-index l = l.sum + total (drop l.index (contents_in l.bytes).children) ≡ total (contents_in l.bytes).children
