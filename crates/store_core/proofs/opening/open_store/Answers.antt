use Rattle.store_core.proofs.Opened.{core_read, leaves_unread, not_begun, not_read}
use Rattle.store_core.proofs.opening.open_store.Goals as goal

-- no memory for the parts
pub returns-in_default-clause-refused : goal.returns-in_default-clause-refused
returns-in_default-clause-refused g c = not_begun _ g.D.Disk.view _

pub returns-in-Err-clause-refused : goal.returns-in-Err-clause-refused
returns-in-Err-clause-refused g c = not_read _ g.D.Disk.view _ _ _ c.in-Err.ensures.opening

pub returns-in-Err-clause-wrote : goal.returns-in-Err-clause-wrote
returns-in-Err-clause-wrote g c = leaves_unread _ g.D.Disk.view _ _ _ _ c.in-Err.ensures.wrote

pub returns-clause-opened : goal.returns-clause-opened
returns-clause-opened g c =
    let view = g.D.Disk.view in
    let started = c.start-tables.ensures in
    core_read _ view c.args.disk.now c.open.new.disk c.in-Ok-open.found _ _ _ _ _ c.in-Ok-open.ensures.opening started.represents
    (λ store represents valid. started.serves (view c.open.new.disk).size store represents valid)
    started.whole started.ids (_, started.known (view c.open.new.disk).content) c.in-Ok.ensures
