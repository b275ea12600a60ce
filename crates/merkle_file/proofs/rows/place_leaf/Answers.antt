use Rattle.merkle_file.proofs.Placing.{one_settled}
use Rattle.merkle_file.proofs.rows.place_leaf.Goals as goal

pub returns-clause-rows : goal.returns-clause-rows
returns-clause-rows c =
    let placement = c.in_ok-placement.placement in
    one_settled placement.level placement.child _ _ _ c.in_ok-placement.ensures.within c.in_ok-settle.ensures.ok c.in_ok-placement.ensures.rows_then
