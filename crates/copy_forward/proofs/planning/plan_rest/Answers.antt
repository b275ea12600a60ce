use Rattle.std.proofs.Common.{◌∙◌, [], Ok, Option, ap, arith}
use Rattle.base_model.proofs.Outcome.{passed_on}
use Rattle.container_meta.specs.declared.entry.Entry.{Entry}
use Rattle.container_meta.specs.Places.{PlaceMap}
use Rattle.container_meta.specs.Segments.{Contents}
use Rattle.dd_disk.specs.Ending.{Done}
use Rattle.dd_disk.specs.Shows.{Shows}
use Rattle.dd_disk.proofs.Ended.{reads_on}
use Rattle.dd_disk.proofs.Shows.{since, until}
use Rattle.copy_forward.specs.Planning.{IsStuck, planned, source_of}
use Rattle.copy_forward.proofs.Planned.{stops_there, stuck_there, takes_more, takes_whole}
use Rattle.copy_forward.proofs.planning.plan_rest.Goals as goal

pub returns-in_err-plan_one-clause-refused : goal.returns-in_err-plan_one-clause-refused
returns-in_err-plan_one-clause-refused g c =
    let view = g.D.Disk.view in
    let old = view c.args.disk.now in
    let mid = view c.loop-entry.disk in
    let new = view c.plan_one.new.disk in
    let source = λ (known : Option PlaceMap). source_of known c.args.live.now c.args.slot c.args.kind in
    let known = g.X.Index.places c.args.index.now old.content in
    let next = g.X.Index.places c.loop-entry.index mid.content in
    let d : Entry = record { digest = []; offset = 0; length = 0; level = 0 } in
    let so_far = c.loop-entry.invariant in
    let e = c.in_err-plan_one.field-0.0 in
    passed_on c.from_residual.result (IsStuck (source known) (Shows old new) c.args.entries.now (planned c.args.buffer.now c.args.dead.now.items)) e c.from_residual.ensures.1
    (stuck_there (source known) (source next) (ap source {x = next} {y = known} so_far.3) (Shows old mid) (Shows mid new) (Shows old new)
    (λ P shown. until old mid new shown so_far.5.only.later.clock_is c.in_err-plan_one.ensures.reads.only.later) (λ P. since old mid new so_far.5.only)
    c.args.entries.now c.loop-entry.entry-index d c.loop-entry-test.true (planned c.args.buffer.now c.args.dead.now.items)
    (planned c.loop-entry.buffer c.loop-entry.dead.items) so_far.0
    e c.in_err-plan_one.ensures.refused)

pub returns-then-not-branch-clause-takes : goal.returns-then-not-branch-clause-takes
returns-then-not-branch-clause-takes g c =
    let view = g.D.Disk.view in
    let old = view c.args.disk.now in
    let mid = view c.loop-entry.disk in
    let new = view c.plan_one.new.disk in
    let source = λ (known : Option PlaceMap). source_of known c.args.live.now c.args.slot c.args.kind in
    let known = g.X.Index.places c.args.index.now old.content in
    let next = g.X.Index.places c.loop-entry.index mid.content in
    let d : Entry = record { digest = []; offset = 0; length = 0; level = 0 } in
    let so_far = c.loop-entry.invariant in
    let full = c.in_ok-plan_one.ensures.full (ap Ok c.if-not-branch.true) in
    stops_there (source known) (source next) (ap source {x = next} {y = known} so_far.3) (Shows old mid) (Shows mid new) (Shows old new)
    (λ P shown. until old mid new shown so_far.5.only.later.clock_is c.in_ok-plan_one.ensures.reads.only.later) (λ P. since old mid new so_far.5.only)
    c.args.entries.now c.loop-entry.entry-index d c.loop-entry-test.true (planned c.args.buffer.now c.args.dead.now.items)
    (planned c.loop-entry.buffer c.loop-entry.dead.items) so_far.0
    (planned c.plan_one.new.buffer c.plan_one.new.dead.items) c.loop-entry.count so_far.1 full.0
    (ap (λ (b : Contents). planned b c.plan_one.new.dead.items) full.1 ∙ ap (planned c.loop-entry.buffer) full.2)

pub loop-entry-preserved : goal.loop-entry-preserved
loop-entry-preserved g c =
    let view = g.D.Disk.view in
    let old = view c.args.disk.now in
    let mid = view c.loop-entry.disk in
    let new = view c.plan_one.new.disk in
    let source = λ (known : Option PlaceMap). source_of known c.args.live.now c.args.slot c.args.kind in
    let known = g.X.Index.places c.args.index.now old.content in
    let next = g.X.Index.places c.loop-entry.index mid.content in
    let d : Entry = record { digest = []; offset = 0; length = 0; level = 0 } in
    let so_far = c.loop-entry.invariant in (
      takes_more (source known) (source next) (ap source {x = next} {y = known} so_far.3) (Shows old mid) (Shows mid new) (Shows old new)
          (λ P shown. until old mid new shown so_far.5.only.later.clock_is c.in_ok-plan_one.ensures.reads.only.later) (λ P. since old mid new so_far.5.only)
          c.args.entries.now c.loop-entry.entry-index d c.loop-entry-test.true (planned c.args.buffer.now c.args.dead.now.items)
          (planned c.loop-entry.buffer c.loop-entry.dead.items) so_far.0
          (planned c.plan_one.new.buffer c.plan_one.new.dead.items) (c.in_ok-plan_one.ensures.taken (ap Ok c.if-not-branch.false)),
      omega (arith, so_far.1),
      c.in_ok-plan_one.ensures.kind ∙ so_far.2,
      c.in_ok-plan_one.ensures.map ∙ so_far.3,
      c.in_ok-plan_one.ensures.size ∙ so_far.4,
      reads_on Done old mid new so_far.5 c.in_ok-plan_one.ensures.reads,
      c.in_ok-plan_one.ensures.served,
    )

pub returns-clause-takes : goal.returns-clause-takes
returns-clause-takes g c =
    let view = g.D.Disk.view in
    let old = view c.args.disk.now in
    let s = source_of (g.X.Index.places c.args.index.now old.content) c.args.live.now c.args.slot c.args.kind in
    takes_whole s (Shows old (view c.loop-entry.disk)) c.args.entries.now c.loop-entry.entry-index c.loop-entry.count (planned c.args.buffer.now c.args.dead.now.items)
    (planned c.loop-entry.buffer c.loop-entry.dead.items) c.loop-entry-test.false c.loop-entry.auto.entry-index-end c.loop-entry.invariant.1 c.loop-entry.invariant.0
