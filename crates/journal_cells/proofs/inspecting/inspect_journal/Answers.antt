use Rattle.journal_cells.proofs.Prelude.{passed_on, map_err, weaker, nothing, finds_on, finds_shown, stops_on, stops_shown, stops_unread, halves_found}
use Rattle.journal_cells.specs.Inspecting.{selectors_found, journal_found}
use Rattle.journal_cells.proofs.Inspected.{ok_map, journal_of_cells}
use Rattle.journal_cells.proofs.inspecting.inspect_journal.Goals as goal

pub returns-in-Err-clause-stopped : goal.returns-in-Err-clause-stopped
returns-in-Err-clause-stopped g c = stops_unread g.S.SpellsDamage.line _ _ _ _

pub returns-in_err-inspect_selectors-clause-stopped : goal.returns-in_err-inspect_selectors-clause-stopped
returns-in_err-inspect_selectors-clause-stopped g c =
    let first = c.in-Ok.cells.0 in
    let second = c.in-Ok.cells.1 in
    passed_on c.from_residual.result _ c.in_err-inspect_selectors.field-0.0 c.from_residual.ensures.1
    (stops_shown g.S.SpellsDamage.line (selectors_found first second) journal_found (halves_found first second) _ _ _ _ c.in_err-inspect_selectors.field-0.0
    (weaker _ _ (λ image sized are. journal_of_cells first second image are) c.in-Ok.ensures.shown) c.in_err-inspect_selectors.ensures.halt.1)

pub returns-clause-found : goal.returns-clause-found
returns-clause-found g c =
    let line = g.S.SpellsDamage.line in
    let first = c.in-Ok.cells.0 in
    let second = c.in-Ok.cells.1 in
    let before = finds_shown line (selectors_found first second) journal_found (halves_found first second) _ _ _ _ _ _
    (weaker _ _ (λ image sized are. journal_of_cells first second image are) c.in-Ok.ensures.shown) c.in_ok-inspect_selectors.ensures.done in
    ok_map c.inspect_halves.result (finds_on line _ _ _ _ _ _ _ _ _ _ before c.in-Ok.ensures.reads.only c.inspect_halves.ensures.reads.only.later (λ image. nothing) _)
    c.inspect_halves.ensures.found

pub returns-clause-stopped : goal.returns-clause-stopped
returns-clause-stopped g c =
    let line = g.S.SpellsDamage.line in
    let first = c.in-Ok.cells.0 in
    let second = c.in-Ok.cells.1 in
    let before = finds_shown line (selectors_found first second) journal_found (halves_found first second) _ _ _ _ _ _
    (weaker _ _ (λ image sized are. journal_of_cells first second image are) c.in-Ok.ensures.shown) c.in_ok-inspect_selectors.ensures.done in
    map_err c.inspect_halves.result _ _ (λ halt is. stops_on line _ _ _ _ _ _ _ _ _ _ before c.in-Ok.ensures.reads.only c.inspect_halves.ensures.reads.only.later halt is)
    c.inspect_halves.ensures.stopped
