use Rattle.std.proofs.Common.{refl}
use Rattle.inspection.proofs.Steps.{stops_one}
use Rattle.inspection.proofs.report.hand_on.Goals as goal

pub returns-in-Err-clause-halt : goal.returns-in-Err-clause-halt
returns-in-Err-clause-halt g c = (refl, stops_one g.S.SpellsDamage.line _ c.in-Some.found _ _ _ c.in-Some.is c.in-Err.ensures)
