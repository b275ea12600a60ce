use Rattle.journal_cells.proofs.Prelude.{◌≡◌, true, false, refl, rules, never_refused}
use Rattle.journal_cells.proofs.Filling.{replaces_closed, opened_replaces, replaces_opened}
use Rattle.journal_cells.proofs.checkpoint.replace_half.Goals as goal

pub returns-then-not-open_gate : goal.returns-then-not-open_gate
returns-then-not-open_gate g c =
    let view = g.D.Disk.view in
    let shut : c.args.open_gate ≡ false = search rules in
    replaces_closed c.args.open_gate c.args.half c.args.fresh.now _ (view c.args.disk.now) (view c.fill_half.new.disk) shut c.fill_half.ensures

pub returns : goal.returns
returns g c =
    let view = g.D.Disk.view in
    let opened : c.args.open_gate ≡ true = search rules in
    replaces_opened c.args.open_gate c.args.half c.args.fresh.now _ (view c.args.disk.now) (view c.fill_half-2.new.disk) opened
    (opened_replaces c.args.half c.args.fresh.now _ _ c.selector_at.ensures refl _ (view c.args.disk.now) (view c.write_synced.new.disk) (view c.fill_half-2.new.disk)
    (never_refused c.fill_half-2.result) c.in_ok-write_synced.ensures c.fill_half-2.ensures)
