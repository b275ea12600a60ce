use Rattle.gc_steps.proofs.Prelude.{List, ap, subst, arith, ◌∙◌, view, Entry, until, SumsLive, columns, few_slots, slot_fits, Filter}
use Rattle.gc_steps.proofs.Recorded.{recorded_as}
use Rattle.gc_steps.proofs.UnderWay.{at_stage, recorded_on}
use Rattle.gc_steps.proofs.filtering.record_container.Goals as goal

pub read_header-requires-clause-place : goal.read_header-requires-clause-place
read_header-requires-clause-place g c = slot_fits (g.D.Disk.view c.args.disk.now).size c.requires.runs.0 c.args.tables.now c.args.slot c.requires.runs.1
    (at_stage c.args.tables.now.held c.args.collection.now (Filter c.args.slot) c.requires.under_way c.requires.stage).0.0

pub read_header-requires-clause-counts : goal.read_header-requires-clause-counts
read_header-requires-clause-counts g c = omega (
  arith,
  columns (g.D.Disk.view c.args.disk.now).size c.requires.runs.0 c.args.tables.now c.requires.runs.1,
  (at_stage c.args.tables.now.held c.args.collection.now (Filter c.args.slot) c.requires.under_way c.requires.stage).0.0,
)

pub read_header-requires-clause-ids : goal.read_header-requires-clause-ids
read_header-requires-clause-ids g c = (at_stage c.args.tables.now.held c.args.collection.now (Filter c.args.slot) c.requires.under_way c.requires.stage).0.0

pub recorded-requires-clause-counts : goal.recorded-requires-clause-counts
recorded-requires-clause-counts g c = omega (
  arith,
  columns (g.D.Disk.view c.args.disk.now).size c.requires.runs.0 c.args.tables.now c.requires.runs.1,
  (at_stage c.args.tables.now.held c.args.collection.now (Filter c.args.slot) c.requires.under_way c.requires.stage).0.0,
)

pub overflow_add-slot : goal.overflow_add-slot
overflow_add-slot g c = omega (
  arith,
  few_slots (g.D.Disk.view c.args.disk.now).size c.requires.runs.0 c.args.tables.now c.requires.runs.1,
  (at_stage c.args.tables.now.held c.args.collection.now (Filter c.args.slot) c.requires.under_way c.requires.stage).0.0,
)

pub filter_from-collection-requires : goal.filter_from-collection-requires
filter_from-collection-requires g c = few_slots (g.D.Disk.view c.args.disk.now).size c.requires.runs.0 c.args.tables.now c.requires.runs.1

pub returns-clause-ok : goal.returns-clause-ok
returns-clause-ok g c =
    let disk = g.D.Disk.view in
    let old = disk c.args.disk.now in
    let mid = disk c.read_header.new.disk in
    let new = disk c.live_bytes.new.disk in
    let meta = c.in_ok-meta.meta in
    let first = c.in_ok-meta.ensures.reads in
    record {
      header = view meta;
      right = c.in_ok-meta.ensures.right;
      tabled = c.in_ok-meta.ensures.tabled;
      shown = until old mid new c.in_ok-meta.ensures.shown first.only.later.clock_is c.in_ok-live.ensures.reads.only.later;
      live = c.in_ok-live.live;
      live_is = λ m known.
          subst (λ (es : List Entry). SumsLive m c.args.collection.now.live meta.kind c.args.slot es c.in_ok-live.live) c.deref.ensures.value
          (c.in_ok-live.ensures.sum m (ap (g.X.Index.places c.args.index.now) first.only.content_is ∙ known));
      collection_is = recorded_as c.args.collection.now c.args.tables.now.held c.args.slot c.in_ok-live.live c.recorded.result c.push.new.self c.filter_from-collection.result
          c.recorded.ensures c.in_ok-push.ensures.ok c.filter_from-collection.ensures;
    }

pub returns-clause-under_way : goal.returns-clause-under_way
returns-clause-under_way g c =
    let ok = returns-clause-ok g c in
    recorded_on c.args.tables.now.held c.args.collection.now c.requires.under_way _ c.args.slot ok.live c.requires.stage ok.collection_is
