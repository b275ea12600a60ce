use Rattle.journal_cells.proofs.Prelude.{◌≡◌, length, rules}
use Rattle.journal_cells.proofs.Filling.{none_written}
use Rattle.journal_cells.proofs.checkpoint.write_some.Goals as goal

pub returns-then-is_empty-clause-ok : goal.returns-then-is_empty-clause-ok
returns-then-is_empty-clause-ok g c =
    let none : length c.args.from.now ≡ 0 = search rules in
    none_written c.args.at c.args.from.now (g.D.Disk.view c.args.disk.now).content none
