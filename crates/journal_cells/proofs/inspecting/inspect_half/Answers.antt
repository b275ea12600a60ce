use Rattle.journal_cells.proofs.Prelude.{◌∙◌, sym, refl, passed_on, map_err, always, half_cells, nothing, finds_as, finds_on, finds_shown, reports_nothing, stops_on, nothing_yet}
use Rattle.inspection.proofs.Steps.{stops_as}
use Rattle.journal_cells.specs.Inspecting.{half_found, past_found, records_found}
use Rattle.journal_cells.proofs.Inspected.{ok_map, half_opened, half_shut}
use Rattle.journal_cells.proofs.inspecting.inspect_half.Goals as goal

pub returns-then-not-is_open-clause-found : goal.returns-then-not-is_open-clause-found
returns-then-not-is_open-clause-found g c =
    finds_shown g.S.SpellsDamage.line nothing (half_found c.args.half c.args.selector.now c.args.counts) (λ image. nothing) _ _ _ _ _ _
    (always _ _ _ (λ image sized. half_shut c.args.half c.args.selector.now c.args.counts image (sym c.is_open.ensures ∙ c.if-not-is_open.true)))
    (reports_nothing g.S.SpellsDamage.line _ _)

pub returns-in_err-count-clause-stopped : goal.returns-in_err-count-clause-stopped
returns-in_err-count-clause-stopped g c =
    passed_on c.from_residual.result _ c.in_err-count.field-0.0 c.from_residual.ensures.1
    (stops_as g.S.SpellsDamage.line (records_found c.args.half c.args.counts half_cells nothing_yet) (half_found c.args.half c.args.selector.now c.args.counts) _ _ _ _
    c.in_err-count.field-0.0
    (always _ _ _ (λ image sized. half_opened c.args.half c.args.selector.now c.args.counts image (sym c.is_open.ensures ∙ c.if-not-is_open.false)))
    (c.in_err-count.ensures.stopped c.args.counts))

pub returns-clause-found : goal.returns-clause-found
returns-clause-found g c =
    let line = g.S.SpellsDamage.line in
    let first = finds_as line (records_found c.args.half c.args.counts half_cells nothing_yet) (half_found c.args.half c.args.selector.now c.args.counts)
    (past_found c.args.half c.args.counts c.in_ok-count.count) (past_found c.args.half c.args.counts c.in_ok-count.count) _ _ _ _ _ _
    (always _ _ _ (λ image sized. half_opened c.args.half c.args.selector.now c.args.counts image (sym c.is_open.ensures ∙ c.if-not-is_open.false)))
    (always _ _ _ (λ image sized. refl)) (c.in_ok-count.ensures.found c.args.counts) in
    ok_map c.inspect_past.result (finds_on line _ _ _ _ _ _ _ _ _ _ first c.in_ok-count.ensures.reads.only c.inspect_past.ensures.reads.only.later (λ image. nothing) _)
    c.inspect_past.ensures.found

pub returns-clause-stopped : goal.returns-clause-stopped
returns-clause-stopped g c =
    let line = g.S.SpellsDamage.line in
    let first = finds_as line (records_found c.args.half c.args.counts half_cells nothing_yet) (half_found c.args.half c.args.selector.now c.args.counts)
    (past_found c.args.half c.args.counts c.in_ok-count.count) (past_found c.args.half c.args.counts c.in_ok-count.count) _ _ _ _ _ _
    (always _ _ _ (λ image sized. half_opened c.args.half c.args.selector.now c.args.counts image (sym c.is_open.ensures ∙ c.if-not-is_open.false)))
    (always _ _ _ (λ image sized. refl)) (c.in_ok-count.ensures.found c.args.counts) in
    map_err c.inspect_past.result _ _ (λ halt is. stops_on line _ _ _ _ _ _ _ _ _ _ first c.in_ok-count.ensures.reads.only c.inspect_past.ensures.reads.only.later halt is)
    c.inspect_past.ensures.stopped
