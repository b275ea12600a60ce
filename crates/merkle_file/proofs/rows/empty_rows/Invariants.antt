use Rattle.merkle_file.proofs.Prelude.{◌≡◌, [], items_of}
use Rattle.std.proofs.Common.{replicate}
use Rattle.merkle_file.proofs.rows.empty_rows.Given as goal

abbrev pub invariant-loop : goal.invariant-loop
invariant-loop l = items_of l.rows.items ≡ replicate l.counter []
