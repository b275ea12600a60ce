use Rattle.std.proofs.Common.{◌≡◌, ◌≤◌, ap, length, rules}
use Rattle.base_model.proofs.Outcome.{passed_on}
use Rattle.container_meta.specs.Spelling.{view}
use Rattle.copy_forward.specs.Copying.{IsSourceRefusal, copy_task}
use Rattle.copy_forward.proofs.Sourced.{plans_after, unplanned_after}
use Rattle.copy_forward.proofs.copying.plan_source.Goals as goal

pub returns-in_err-plan-clause-refused : goal.returns-in_err-plan-clause-refused
returns-in_err-plan-clause-refused g c =
    let disk = g.D.Disk.view in
    let old = disk c.args.disk.now in
    let mid = disk c.read_header.new.disk in
    let new = disk c.plan_copies.new.disk in
    let places = g.X.Index.places c.args.index.now in
    let meta = c.in_ok-meta.meta in
    let reads = c.in_ok-meta.ensures.reads.only in
    let e = c.in_err-plan.field-0.0 in
    let kind : meta.kind ≡ c.args.buffer.now.kind = search rules in
    let few : c.args.from ≤ length meta.entries.items = search rules in
    passed_on c.from_residual-in_err-plan.result
    (IsSourceRefusal (copy_task c.args.held.now (places old.content) c.args.live.now c.args.slot c.args.from c.args.buffer.now) old new) e c.from_residual-in_err-plan.ensures.1
    (unplanned_after c.args.held.now (places old.content) (places mid.content) c.args.live.now c.args.slot c.args.from (view meta) c.args.buffer.now old mid new
    (ap places reads.content_is) c.in_ok-meta.ensures.shown reads
    c.in_err-plan.ensures.reads.only.later e c.in_ok-meta.ensures.tabled kind few c.in_err-plan.ensures.refused)

pub returns-clause-ok : goal.returns-clause-ok
returns-clause-ok g c =
    let disk = g.D.Disk.view in
    let old = disk c.args.disk.now in
    let mid = disk c.read_header.new.disk in
    let new = disk c.plan_copies.new.disk in
    let places = g.X.Index.places c.args.index.now in
    let meta = c.in_ok-meta.meta in
    let reads = c.in_ok-meta.ensures.reads.only in
    let kind : meta.kind ≡ c.args.buffer.now.kind = search rules in
    plans_after c.args.held.now (places old.content) (places mid.content) c.args.live.now c.args.slot c.args.from (view meta) c.args.buffer.now old mid new
    (ap places reads.content_is) c.in_ok-meta.ensures.shown reads
    c.in_ok-plan.ensures.reads.only.later c.in_ok-plan.plan c.in_ok-meta.ensures.right c.in_ok-meta.ensures.tabled kind c.in_ok-plan.ensures.plan
