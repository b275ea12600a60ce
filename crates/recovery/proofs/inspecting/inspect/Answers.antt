use Rattle.recovery.proofs.Inspected.{refused_so, inspected, cut_short}
use Rattle.recovery.proofs.inspecting.inspect.Goals as goal

pub returns-in-Err-clause-stopped : goal.returns-in-Err-clause-stopped
returns-in-Err-clause-stopped g c = refused_so g.S.SpellsDamage.line _ _ _ c.in-Err.refusal c.in-Err.ensures.format_refused

pub returns-in-Ok-inspect_parts-clause-done : goal.returns-in-Ok-inspect_parts-clause-done
returns-in-Ok-inspect_parts-clause-done g c =
    inspected g.S.SpellsDamage.line c.in-Ok.slots _ _ _ c.in-Ok.ensures.sized c.in-Ok.ensures.reads.only c.in-Ok-inspect_parts.ensures.reads.only.later _ _ _ _
    c.nothing_counted-tally.ensures c.in-Ok-inspect_parts.ensures.found

pub returns-in-Err-inspect_parts-clause-stopped : goal.returns-in-Err-inspect_parts-clause-stopped
returns-in-Err-inspect_parts-clause-stopped g c =
    cut_short g.S.SpellsDamage.line c.in-Ok.slots _ _ _ c.in-Ok.ensures.sized c.in-Ok.ensures.reads.only c.in-Err-inspect_parts.ensures.reads.only.later _ _
    c.in-Err-inspect_parts.halt c.ended_by.result c.ended_by.ensures c.in-Err-inspect_parts.ensures.stopped
