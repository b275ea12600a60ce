use Rattle.merkle_file.proofs.Prelude.{arith}
use Rattle.merkle_file.proofs.Closing.{clear_step}
use Rattle.merkle_file.proofs.rows.clear.Goals as goal

pub loop-row-preserved : goal.loop-row-preserved
loop-row-preserved c =
    clear_step c.loop-row.rows c.loop-row.row-index c.clear.new.self (omega (arith, c.loop-row.auto.rows)) c.clear.ensures.items c.loop-row.invariant
