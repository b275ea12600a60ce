use Rattle.journal_cells.proofs.Prelude.{ap}
use Rattle.journal_cells.proofs.Checkpointed.{writes_checkpoint}
use Rattle.journal_cells.proofs.journal.Journal.write_checkpoint.Goals as goal

pub returns-in-Err-clause-writes : goal.returns-in-Err-clause-writes
returns-in-Err-clause-writes g c = λ names is.
    let view = g.D.Disk.view in
    writes_checkpoint c.args.self.now names c.args.fresh.now is c.other_half.ensures.right.half c.self.inside.other_open c.other_half.result
    (view c.args.disk.now) (view c.replace_half.new.disk) _ (ap (λ j. j.other_open) c.self.view_is) c.other_half.ensures.half c.requires.size c.in-Err.ensures

pub returns-clause-writes : goal.returns-clause-writes
returns-clause-writes g c = λ names is.
    let view = g.D.Disk.view in
    writes_checkpoint c.args.self.now names c.args.fresh.now is c.other_half.ensures.right.half c.self.inside.other_open c.other_half.result
    (view c.args.disk.now) (view c.replace_half.new.disk) _ (ap (λ j. j.other_open) c.self.view_is) c.other_half.ensures.half c.requires.size c.in-Ok.ensures
