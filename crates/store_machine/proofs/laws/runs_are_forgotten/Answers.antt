use Rattle.store_machine.proofs.Forgotten.{runs_are_forgotten, steps_are_forgotten}
use Rattle.store_machine.proofs.laws.runs_are_forgotten.Goals as goal

pub returns : goal.returns
returns c = record { steps = steps_are_forgotten; runs = runs_are_forgotten }
