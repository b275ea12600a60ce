use Rattle.recovery.proofs.Prelude.{sym, subst, ending_of, Shows, weaker, since, blames, IsOpenRefusal}
use Rattle.dd_disk.proofs.Ended.{reads_on}
use Rattle.recovery.proofs.Steps.{cell_fails, cell_reads, own_last, scanned_since, journal_refusal}
use Rattle.recovery.proofs.Opens.{cell_not_full}
use Rattle.recovery.proofs.opening.read_front.Goals as goal

pub returns-in-Ok-clause-scanned : goal.returns-in-Ok-clause-scanned
returns-in-Ok-clause-scanned g c = own_last _ _ _ _ (scanned_since _ _ _ c.in_ok-slots.ensures.reads.only _ _ _ c.in-Ok.ensures.found)

pub returns-in-Err-clause-only : goal.returns-in-Err-clause-only
returns-in-Err-clause-only g c =
    weaker _ _ (λ image sized gives store right. cell_fails c.in-Err.fault c.refused_by.result c.refused_by.ensures
    (gives store.selector store.records store.other_open right.journal right.other))
    (since _ _ _ c.in_ok-slots.ensures.reads.only c.in-Err.ensures.only)

pub returns-in-Err-clause-reads : goal.returns-in-Err-clause-reads
returns-in-Err-clause-reads g c =
    reads_on (ending_of (blames c.refused_by.result)) _ _ _ c.in_ok-slots.ensures.reads
    (cell_reads c.in-Err.fault c.refused_by.result _ _ c.refused_by.ensures c.in-Err.ensures.reads)

pub returns-in-Err-clause-refused : goal.returns-in-Err-clause-refused
returns-in-Err-clause-refused g c =
    let view = g.D.Disk.view in
    let reads = c.in-Err.ensures.reads in
    subst (IsOpenRefusal (Shows (view c.args.disk.now) (view c.scan.new.disk)) (view c.args.disk.now).size) (sym c.refused_by.ensures)
    (journal_refusal _ _ _ c.in_ok-slots.ensures.reads.only reads.only c.in_ok-slots.slots c.in_ok-slots.ensures.sized c.in-Err.fault c.in-Err.ensures.cause)

pub returns-in-Err-clause-not_full : goal.returns-in-Err-clause-not_full
returns-in-Err-clause-not_full g c = cell_not_full c.in-Err.fault c.refused_by.result c.refused_by.ensures
