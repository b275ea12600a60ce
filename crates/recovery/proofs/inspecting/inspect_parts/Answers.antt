use Rattle.recovery.proofs.Prelude.{passed_on, map_err}
use Rattle.recovery.proofs.Inspected.{ok_map, stops_at_format, stops_in_journal, finds_all, stops_in_slots}
use Rattle.recovery.proofs.inspecting.inspect_parts.Goals as goal

pub returns-in_err-add_cell-clause-stopped : goal.returns-in_err-add_cell-clause-stopped
returns-in_err-add_cell-clause-stopped g c =
    passed_on c.from_residual.result _ c.in_err-add_cell.field-0.0 c.from_residual.ensures.1
    (stops_at_format g.S.SpellsDamage.line c.args.slots _ _ _ c.in_err-add_cell.field-0.0 c.in_err-add_cell.ensures.halt.1)

pub returns-in_err-inspect_journal-clause-stopped : goal.returns-in_err-inspect_journal-clause-stopped
returns-in_err-inspect_journal-clause-stopped g c =
    passed_on c.from_residual-in_err-inspect_journal.result _ c.in_err-inspect_journal.field-0.0 c.from_residual-in_err-inspect_journal.ensures.1
    (stops_in_journal g.S.SpellsDamage.line c.args.slots _ _ _ _ _ c.in_ok-add_cell.ensures.done _ _ c.in_err-inspect_journal.ensures.reads.only c.in_err-inspect_journal.field-0.0
    c.in_err-inspect_journal.ensures.stopped)

pub returns-clause-found : goal.returns-clause-found
returns-clause-found g c =
    ok_map c.inspect_slots.result
    (finds_all g.S.SpellsDamage.line c.args.slots _ _ _ _ _ c.in_ok-add_cell.ensures.done _ _ c.in_ok-inspect_journal.ensures.reads.only _ c.in_ok-inspect_journal.ensures.found _ _
    c.inspect_slots.ensures.reads.only.later _)
    c.inspect_slots.ensures.found

pub returns-clause-stopped : goal.returns-clause-stopped
returns-clause-stopped g c =
    map_err c.inspect_slots.result _ _
    (λ halt is. stops_in_slots g.S.SpellsDamage.line c.args.slots _ _ _ _ _ c.in_ok-add_cell.ensures.done _ _ c.in_ok-inspect_journal.ensures.reads.only _
    c.in_ok-inspect_journal.ensures.found _ _ c.inspect_slots.ensures.reads.only.later halt is)
    c.inspect_slots.ensures.stopped
