use Rattle.recovery.proofs.Prelude.{◌∙◌, passed_on, Reads, ending_of, weaker, passed, blames}
use Rattle.dd_disk.proofs.Shows.{both}
use Rattle.dd_disk.proofs.Ended.{reads_on}
use Rattle.recovery.proofs.Steps.{slots_refusal, found_all, format_slots}
use Rattle.recovery.proofs.Opens.{slots_not_full}
use Rattle.recovery.proofs.opening.open_all.Goals as goal

pub returns-in_err-containers-clause-only : goal.returns-in_err-containers-clause-only
returns-in_err-containers-clause-only g c =
    let reads = c.in_err-containers.ensures.reads in
    passed_on c.from_residual-in_err-containers.result _ c.in_err-containers.field-0.0 c.from_residual-in_err-containers.ensures.1
    (weaker _ _ (λ image sized seen store right. seen.1 store.held
    (right.many ∙ format_slots store.slots c.in_ok-front.front.slots image right.count c.in_ok-front.ensures.sized.count right.format seen.0) right.slots_are right.different)
    (both _ _ _ c.in_ok-front.ensures.sized.format c.in_ok-front.ensures.reads.only c.in_err-containers.ensures.only reads.only.later))

pub returns-in_err-containers-clause-reads : goal.returns-in_err-containers-clause-reads
returns-in_err-containers-clause-reads g c =
    let view = g.D.Disk.view in
    passed (λ e. Reads e (view c.args.disk.now) (view c.read_slots.new.disk)) blames c.from_residual-in_err-containers.result c.in_err-containers.field-0.0
    c.from_residual-in_err-containers.ensures.1
    (reads_on (ending_of (blames c.in_err-containers.field-0.0)) _ _ _ c.in_ok-front.ensures.reads c.in_err-containers.ensures.reads)

pub returns-in_err-containers-clause-refused : goal.returns-in_err-containers-clause-refused
returns-in_err-containers-clause-refused g c =
    let reads = c.in_err-containers.ensures.reads in
    passed_on c.from_residual-in_err-containers.result _ c.in_err-containers.field-0.0 c.from_residual-in_err-containers.ensures.1
    (slots_refusal _ _ _ c.in_ok-front.ensures.reads.only reads.only c.in_ok-front.front.slots _ _ _ c.in_ok-front.ensures.sized c.in_ok-front.ensures.scanned
    c.in_err-containers.field-0.0 c.in_err-containers.ensures.refused)

pub returns-clause-found : goal.returns-clause-found
returns-clause-found g c =
    let reads = c.in_ok-containers.ensures.reads in
    found_all _ _ _ c.in_ok-front.ensures.reads.only reads.only _ c.in_ok-front.ensures.sized c.in_ok-front.ensures.scanned c.in_ok-containers.ensures.found

pub returns-in_err-containers-clause-not_full : goal.returns-in_err-containers-clause-not_full
returns-in_err-containers-clause-not_full g c =
    passed_on c.from_residual-in_err-containers.result _ c.in_err-containers.field-0.0 c.from_residual-in_err-containers.ensures.1
    (slots_not_full _ c.in_ok-front.front.slots c.in_err-containers.field-0.0 c.in_err-containers.ensures.refused)
