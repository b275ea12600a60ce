use Rattle.store_core.proofs.Fitting.{answers_fit}
use Rattle.store_core.proofs.laws.an_answer_fits_its_step.Goals as goal

pub returns : goal.returns
returns g c = answers_fit _ g.C.HasState.state
