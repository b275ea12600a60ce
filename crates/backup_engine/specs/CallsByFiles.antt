-- Lines over a core that was opened, and closed then (docs/MODEL.md, 'From the machine to `backup`').
use Rattle.dd_disk.specs.View.{DiskView}
use Rattle.core_machine.specs.FileOpenings.{DisksStand}
use Rattle.script_runner.specs.AnyDisk.{LinesGoOn}
use Rattle.script_runner.specs.LinesAreFileRuns.{OpenedIsAtDesk, ScriptsAreFileRuns}
use Rattle.store_core.specs.State.{CoreState}

-- What makes them, over all of the call, lines of the machine of files: it is opened so, its lines are so, they leave the same disk, later,
-- and what reads give then, and a crash leaves, stands for its files.
pub record CallsRunByFiles (D : Type 0) (view : D → DiskView) (C : Type 0) (state : C → CoreState) : Type 0 where
  pub opens : OpenedIsAtDesk D view C state
  pub scripts : ScriptsAreFileRuns C state
  pub goes : LinesGoOn C state
  pub stands : DisksStand C state
