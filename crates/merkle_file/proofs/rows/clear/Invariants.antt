use Rattle.merkle_file.proofs.Prelude.{◌≡◌, take, [], items_of}
use Rattle.std.proofs.Common.{replicate}
use Rattle.merkle_file.proofs.rows.clear.Given as goal

abbrev pub invariant-loop-row : goal.invariant-loop-row
invariant-loop-row l = take l.row-index (items_of l.rows) ≡ replicate l.row-index []
