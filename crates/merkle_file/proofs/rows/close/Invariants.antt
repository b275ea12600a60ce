use Rattle.merkle_file.proofs.Prelude.{[], option_to_list, items_of}
use Rattle.merkle_file.specs.Steps.{close}
use Rattle.merkle_file.proofs.Closing.{IsClosing}
use Rattle.merkle_file.proofs.rows.close.Given as goal

abbrev pub invariant-loop-level : goal.invariant-loop-level
invariant-loop-level l =
    let all = close 0 [] (items_of l.rows) in
    IsClosing l.level (option_to_list l.carried) (items_of l.rows) l.nodes.items all.top all.nodes
