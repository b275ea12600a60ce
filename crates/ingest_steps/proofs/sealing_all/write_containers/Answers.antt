use Rattle.ingest_steps.proofs.Prelude.{subst, Moves, ending_of, Stands, IsIn}
use Rattle.dd_disk.specs.Moves.{step}
use Rattle.container_log.specs.declared.fault.LogFault.{LogFault}
use Rattle.container_log.specs.Faults.{blames}
use Rattle.container_log.specs.Many.{placed}
use Rattle.store_model.specs.Together.{StandsSome, with_all}
use Rattle.ingest_steps.proofs.sealing_all.write_containers.Goals as goal

pub returns-in-Err-clause-moves : goal.returns-in-Err-clause-moves
returns-in-Err-clause-moves g c = λ among store files distinct may can.
    let ps = placed c.args.slots.now c.args.id c.args.filled.now in
    subst (λ (e : LogFault). Moves (step (Stands (IsIn among) store files) (StandsSome (IsIn among) ps store files) (Stands (IsIn among) (with_all ps store) files))
    (ending_of (blames e)) (g.D.Disk.view c.args.disk.now) (g.D.Disk.view c.seal_all.new.disk)) c.in-Err.ensures.fault (c.in-Err.ensures.moves among store files distinct may can)
