use Rattle.base_model.proofs.Outcome.{passed_on}
use Rattle.container_log.proofs.Inspected.{stops_by_memory}
use Rattle.container_log.proofs.inspecting.inspect_slots.Goals as goal

pub returns-in_err-bytes-clause-stopped : goal.returns-in_err-bytes-clause-stopped
returns-in_err-bytes-clause-stopped g c = passed_on c.from_residual.result _ c.in_err-bytes.field-0.0 c.from_residual.ensures.1
    (stops_by_memory g.S.SpellsDamage.line _ _ _ _ _ c.in_err-bytes.ensures.halt)

pub returns-in_err-entries-clause-stopped : goal.returns-in_err-entries-clause-stopped
returns-in_err-entries-clause-stopped g c = passed_on c.from_residual-in_err-entries.result _ c.in_err-entries.field-0.0 c.from_residual-in_err-entries.ensures.1
    (stops_by_memory g.S.SpellsDamage.line _ _ _ _ _ c.in_err-entries.ensures.halt)
