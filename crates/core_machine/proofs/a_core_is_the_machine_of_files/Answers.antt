use Rattle.core_machine.proofs.FileStands.{disks_stand}
use Rattle.core_machine.proofs.FilesRefined.{file_runs_refine, files_refine}
use Rattle.core_machine.proofs.a_core_is_the_machine_of_files.Goals as goal

pub returns-clause-steps : goal.returns-clause-steps
returns-clause-steps g c = files_refine _ g.C.HasState.state

pub returns-clause-runs : goal.returns-clause-runs
returns-clause-runs g c = file_runs_refine _ g.C.HasState.state

pub returns-clause-stands : goal.returns-clause-stands
returns-clause-stands g c = disks_stand _ g.C.HasState.state
