use Rattle.recovery.proofs.Prelude.{◌∙◌, sym, subst, passed_on, ending_of, Shows, always, weaker, since, blames, IsFormatRefusal}
use Rattle.dd_disk.proofs.Ended.{reads_on}
use Rattle.recovery.proofs.Steps.{begin_fails, is_large, cell_fails, cell_reads, format_alone}
use Rattle.recovery.proofs.Opens.{cell_not_full}
use Rattle.recovery.proofs.opening.count_slots.Goals as goal

pub returns-in_err-begin-clause-only : goal.returns-in_err-begin-clause-only
returns-in_err-begin-clause-only g c =
    passed_on c.from_residual.result _ c.in_err-begin.field-0.0 c.from_residual.ensures.1
    (always _ _ _ (λ image sized store right. begin_fails _ c.in_err-begin.field-0.0 c.in_err-begin.ensures.refused (is_large store.slots _ right.count (sym sized ∙ right.size))))

pub returns-in-Ok-clause-format : goal.returns-in-Ok-clause-format
returns-in-Ok-clause-format g c = since _ _ _ c.in_ok-begin.ensures.reads.only c.in-Ok.ensures.shown

pub returns-in-Err-clause-only : goal.returns-in-Err-clause-only
returns-in-Err-clause-only g c =
    weaker _ _ (λ image sized gives store right. cell_fails c.in-Err.fault c.refused_by.result c.refused_by.ensures (gives store.slots right.count right.format))
    (since _ _ _ c.in_ok-begin.ensures.reads.only c.in-Err.ensures.only)

pub returns-in-Err-clause-reads : goal.returns-in-Err-clause-reads
returns-in-Err-clause-reads g c =
    reads_on (ending_of (blames c.refused_by.result)) _ _ _ c.in_ok-begin.ensures.reads
    (cell_reads c.in-Err.fault c.refused_by.result _ _ c.refused_by.ensures c.in-Err.ensures.reads)

pub returns-in-Err-clause-not_full : goal.returns-in-Err-clause-not_full
returns-in-Err-clause-not_full g c = cell_not_full c.in-Err.fault c.refused_by.result c.refused_by.ensures

pub returns-in-Err-clause-format_refused : goal.returns-in-Err-clause-format_refused
returns-in-Err-clause-format_refused g c =
    let view = g.D.Disk.view in
    subst (IsFormatRefusal (Shows (view c.args.disk.now) (view c.slots_of.new.disk)) (view c.args.disk.now).size) (sym c.refused_by.ensures)
    (format_alone _ _ _ c.in_ok-begin.ensures.reads.only c.in_ok-begin.ensures.least c.in-Err.fault c.in-Err.ensures.cause)
