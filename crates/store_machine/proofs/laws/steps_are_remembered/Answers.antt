use Rattle.store_machine.proofs.NoMore.{adds_no_more}
use Rattle.store_machine.proofs.Remembered as lemma
use Rattle.store_machine.proofs.laws.steps_are_remembered.Goals as goal

pub returns : goal.returns
returns c = record { steps = lemma.steps_are_remembered; no_more = adds_no_more }
