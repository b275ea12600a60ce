use Rattle.std.proofs.Common.{subst}
use Rattle.dd_disk.specs.Ending.{Done, ending_of}
use Rattle.dd_disk.proofs.Moves.{passed}
use Rattle.disk_format.specs.Layout.{slot_at}
use Rattle.segment_index.specs.Changes.{Changes}
use Rattle.store_state.specs.Refused.{blames}
use Rattle.store_state.proofs.Changed.{size_on}
use Rattle.copy_forward.specs.Copying.{PlansSource, copy_task}
use Rattle.copy_forward.proofs.Sourced.{changes_after, plans_until}
use Rattle.copy_forward.proofs.copying.copy_entries.Goals as goal

pub returns-in_err-remove_keys-clause-changes : goal.returns-in_err-remove_keys-clause-changes
returns-in_err-remove_keys-clause-changes g c = λ slots size_is.
    let view = g.D.Disk.view in
    let e = c.in_err-remove_keys.field-0.0 in
    passed (λ x. Changes (slot_at slots) x (view c.args.disk.now)
    (view c.remove_keys.new.disk)) blames c.from_residual-in_err-remove_keys.result e c.from_residual-in_err-remove_keys.ensures.1
    (changes_after (ending_of (blames e)) (view c.args.disk.now) (view c.plan_source.new.disk)
    (view c.remove_keys.new.disk) slots size_is c.in_ok-plan.ensures.reads c.in_err-remove_keys.ensures.changes)

pub returns-clause-ok : goal.returns-clause-ok
returns-clause-ok g c =
    let view = g.D.Disk.view in
    let old = view c.args.disk.now in
    let mid = view c.plan_source.new.disk in
    let new = view c.remove_keys.new.disk in
    let reads = c.in_ok-plan.ensures.reads.only in
    let slots = c.requires.slots in
    let changed = c.in_ok-remove_keys.ensures.changes slots.slots (size_on old mid slots.slots reads.later slots.size_is) in
    subst (PlansSource (copy_task c.args.held.now (g.X.Index.places c.args.index.now old.content) c.args.live.now c.args.slot c.args.from c.args.buffer.now) old new) c.in-Some.is
    (plans_until c.args.held.now (g.X.Index.places c.args.index.now old.content) c.args.live.now c.args.slot c.args.from c.args.buffer.now old mid new c.in_ok-plan.field-0 reads
    changed.later c.in_ok-plan.ensures.ok)

pub returns-clause-changes : goal.returns-clause-changes
returns-clause-changes g c = λ slots size_is.
    let view = g.D.Disk.view in
    changes_after Done (view c.args.disk.now) (view c.plan_source.new.disk)
    (view c.remove_keys.new.disk) slots size_is c.in_ok-plan.ensures.reads c.in_ok-remove_keys.ensures.changes
