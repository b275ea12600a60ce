use Rattle.gc_steps.proofs.Prelude.{inr, ap, arith, view, until, Collection, Stage, columns, few_slots, slot_fits, Mark}
use Rattle.gc_steps.proofs.Scans.{entries_since, fault_since, keeps_marks, kept_since}
use Rattle.gc_steps.proofs.UnderWay.{at_stage, marked}
use Rattle.gc_steps.proofs.marking.mark_container.Goals as goal

pub read_header-requires-clause-place : goal.read_header-requires-clause-place
read_header-requires-clause-place g c = slot_fits (g.D.Disk.view c.args.disk.now).size c.requires.runs.0 c.args.tables.now c.args.slot c.requires.runs.1
    (at_stage c.args.tables.now.held c.args.collection.now (Mark c.args.level c.args.slot) c.requires.under_way c.requires.stage).2.0

pub read_header-requires-clause-counts : goal.read_header-requires-clause-counts
read_header-requires-clause-counts g c = omega (
  arith,
  columns (g.D.Disk.view c.args.disk.now).size c.requires.runs.0 c.args.tables.now c.requires.runs.1,
  (at_stage c.args.tables.now.held c.args.collection.now (Mark c.args.level c.args.slot) c.requires.under_way c.requires.stage).2.0,
)

pub read_header-requires-clause-ids : goal.read_header-requires-clause-ids
read_header-requires-clause-ids g c = (at_stage c.args.tables.now.held c.args.collection.now (Mark c.args.level c.args.slot) c.requires.under_way c.requires.stage).2.0

pub overflow_add-slot : goal.overflow_add-slot
overflow_add-slot g c = omega (
  arith,
  few_slots (g.D.Disk.view c.args.disk.now).size c.requires.runs.0 c.args.tables.now c.requires.runs.1,
  (at_stage c.args.tables.now.held c.args.collection.now (Mark c.args.level c.args.slot) c.requires.under_way c.requires.stage).2.0,
)

pub mark_from-collection-requires-clause-ids : goal.mark_from-collection-requires-clause-ids
mark_from-collection-requires-clause-ids g c = few_slots (g.D.Disk.view c.args.disk.now).size c.requires.runs.0 c.args.tables.now c.requires.runs.1

pub mark_from-collection-requires-clause-counts : goal.mark_from-collection-requires-clause-counts
mark_from-collection-requires-clause-counts g c = columns (g.D.Disk.view c.args.disk.now).size c.requires.runs.0 c.args.tables.now c.requires.runs.1

pub returns-in-Ok-clause-ok : goal.returns-in-Ok-clause-ok
returns-in-Ok-clause-ok g c =
    let disk = g.D.Disk.view in
    let places = g.X.Index.places c.args.index.now in
    let old = disk c.args.disk.now in
    let mid = disk c.read_header.new.disk in
    let new = disk c.scan_lent.new.disk in
    let header = view c.in_ok-meta.meta in
    let now = c.args.collection.now in
    let reads = c.in_ok-meta.ensures.reads.only in
    record {
      header = header;
      right = c.in_ok-meta.ensures.right;
      tabled = c.in_ok-meta.ensures.tabled;
      shown = until old mid new c.in_ok-meta.ensures.shown reads.later.clock_is c.in-Ok.ensures.only.later;
      scanned = entries_since (places old.content) (places mid.content) old mid new reads
          (ap places reads.content_is) c.args.slot c.args.level header now.live c.scan_lent.new.live c.in-Ok.ensures.marks;
      collection_is = ap (λ (s : Stage). (let after : Collection = record now { live = c.scan_lent.new.live; stage = s } in after)) c.mark_from-collection.ensures;
    }

pub returns-in-Ok-clause-under_way : goal.returns-in-Ok-clause-under_way
returns-in-Ok-clause-under_way g c = marked c.args.tables.now.held c.args.collection.now c.requires.under_way _ c.args.level c.args.slot c.requires.stage
    (returns-in-Ok-clause-ok g c).collection_is

pub returns-clause-kept : goal.returns-clause-kept
returns-clause-kept g c =
    let disk = g.D.Disk.view in
    let places = g.X.Index.places c.args.index.now in
    let old = disk c.args.disk.now in
    let mid = disk c.read_header.new.disk in
    let new = disk c.scan_lent.new.disk in
    let header = view c.in_ok-meta.meta in
    let reads = c.in_ok-meta.ensures.reads.only in
    keeps_marks
    (places old.content) old new c.args.level c.args.slot c.args.collection.now c.scan_lent.new.live c.in-Err.fault c.refusal_of.result header c.in_ok-meta.ensures.right
    (until old mid new c.in_ok-meta.ensures.shown reads.later.clock_is c.in-Err.ensures.only.later) c.refusal_of.ensures
    (kept_since (places old.content) (places mid.content) old mid new reads
    (ap places reads.content_is) c.args.slot c.args.level header c.args.collection.now.live c.scan_lent.new.live c.in-Err.fault c.in-Err.ensures.kept)

pub returns-clause-refused : goal.returns-clause-refused
returns-clause-refused g c =
    let disk = g.D.Disk.view in
    let places = g.X.Index.places c.args.index.now in
    let old = disk c.args.disk.now in
    let mid = disk c.read_header.new.disk in
    let new = disk c.scan_lent.new.disk in
    let header = view c.in_ok-meta.meta in
    let reads = c.in_ok-meta.ensures.reads.only in
    inr (record {
      header = header;
      right = c.in_ok-meta.ensures.right;
      tabled = c.in_ok-meta.ensures.tabled;
      shown = until old mid new c.in_ok-meta.ensures.shown reads.later.clock_is c.in-Err.ensures.only.later;
      fault = c.in-Err.fault;
      refusal_is = c.refusal_of.ensures;
      cause = fault_since (places old.content) (places mid.content) old mid new reads
          (ap places reads.content_is) c.args.slot c.args.level header c.args.collection.now.live c.in-Err.fault c.in-Err.ensures.refused;
    })
