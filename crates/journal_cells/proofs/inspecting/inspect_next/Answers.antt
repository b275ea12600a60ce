use Rattle.journal_cells.proofs.Prelude.{◌∙◌, ap, passed_on, nothing, cell_with, finds_shown, reports_nothing, stops_shown, stops_unread, Replay, replay}
use Rattle.journal_cells.specs.Inspecting.{records_found, past_found}
use Rattle.journal_cells.proofs.Inspected.{after_count, shows_open, shows_closed, stops_by_memory}
use Rattle.journal_cells.proofs.inspecting.inspect_next.Goals as goal

pub returns-in-Err-clause-stopped : goal.returns-in-Err-clause-stopped
returns-in-Err-clause-stopped g c = λ counts. stops_unread g.S.SpellsDamage.line _ _ _ _

pub returns-then-cell-clause-found : goal.returns-then-cell-clause-found
returns-then-cell-clause-found g c = λ counts.
    finds_shown g.S.SpellsDamage.line nothing _ (past_found c.args.half counts c.args.before.now.count) _ _ _ _ _ _
    (shows_closed c.args.half c.cell_at-at.result counts (replay c.args.before.now) c.read_at.new.into _ _ c.cell_at-at.ensures c.requires.room c.in-Ok.ensures.shown
    c.if-cell.true) (reports_nothing g.S.SpellsDamage.line _ _)

pub returns-in_err-damage-clause-stopped : goal.returns-in_err-damage-clause-stopped
returns-in_err-damage-clause-stopped g c =
    passed_on c.from_residual.result _ c.in_err-damage.field-0.0 c.from_residual.ensures.1 (λ counts. stops_by_memory g.S.SpellsDamage.line _ _ _ _ _ c.in_err-damage.ensures.halt)

pub returns-in_err-pass-clause-stopped : goal.returns-in_err-pass-clause-stopped
returns-in_err-pass-clause-stopped g c =
    passed_on c.from_residual-in_err-pass.result _ c.in_err-pass.field-0.0 c.from_residual-in_err-pass.ensures.1
    (λ counts. stops_by_memory g.S.SpellsDamage.line _ _ _ _ _ c.in_err-pass.ensures.halt)

pub returns-in_err-add_cell-clause-stopped : goal.returns-in_err-add_cell-clause-stopped
returns-in_err-add_cell-clause-stopped g c =
    passed_on c.from_residual-in_err-add_cell.result _ c.in_err-add_cell.field-0.0 c.from_residual-in_err-add_cell.ensures.1
    (λ counts. stops_shown g.S.SpellsDamage.line (cell_with c.in_ok-damage.damage) _ _ _ _ _ _ c.in_err-add_cell.field-0.0
    (shows_open c.args.half c.cell_at-at.result counts (replay c.args.before.now) c.read_at.new.into _ _ c.cell_at-at.ensures c.requires.room c.in-Ok.ensures.shown
    c.in_ok-damage.damage (replay c.pass.new.self) c.if-cell.false c.in_ok-damage.ensures.damage c.in_ok-pass.ensures.passed)
    c.in_err-add_cell.ensures.halt.1)

pub returns-clause-counted : goal.returns-clause-counted
returns-clause-counted g c = ap (λ (r : Replay). r.count) c.in_ok-pass.ensures.passed ∙ after_count c.cell_at-at.result (replay c.args.before.now) c.read_at.new.into

pub returns-clause-found : goal.returns-clause-found
returns-clause-found g c = λ counts.
    finds_shown g.S.SpellsDamage.line (cell_with c.in_ok-damage.damage) _ (records_found c.args.half counts _ (replay c.pass.new.self)) _ _ _ _ _ _
    (shows_open c.args.half c.cell_at-at.result counts (replay c.args.before.now) c.read_at.new.into _ _ c.cell_at-at.ensures c.requires.room c.in-Ok.ensures.shown
    c.in_ok-damage.damage (replay c.pass.new.self) c.if-cell.false c.in_ok-damage.ensures.damage c.in_ok-pass.ensures.passed)
    c.in_ok-add_cell.ensures.done
