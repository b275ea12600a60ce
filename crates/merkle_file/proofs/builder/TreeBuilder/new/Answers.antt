use Rattle.merkle_file.proofs.Prelude.{items_of}
use Rattle.merkle_file.proofs.Progress.{fresh_holds, fresh_progress}
use Rattle.merkle_file.proofs.builder.TreeBuilder.new.Goals as goal

pub invariant_of-result : goal.invariant_of-result
invariant_of-result c = fresh_progress (items_of c.in_ok-empty_rows.field-0.items) c.new.result.items c.in_ok-empty_rows.ensures

pub returns : goal.returns
returns c = fresh_holds (items_of c.in_ok-empty_rows.field-0.items) c.new.result.items c.in_ok-empty_rows.ensures c.new.ensures.items
