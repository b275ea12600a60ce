use Rattle.std.proofs.Common.{Bool, suc, subst}
use Rattle.base_model.proofs.Outcome.{passed_on, map_err}
use Rattle.dd_disk.specs.Shows.{Shows}
use Rattle.inspection.specs.Found.{nothing}
use Rattle.inspection.proofs.Steps.{finds_shown, reports_nothing}
use Rattle.container_log.specs.Inspecting.{ReadsSlot, slots_found}
use Rattle.container_log.proofs.Inspected.{ok_map, finds_open, shows_closed, stops_by_read, stops_open, stops_without_id}
use Rattle.container_log.proofs.inspecting.inspect_slot.Goals as goal

pub returns-in_err-read_slot_into-clause-stopped : goal.returns-in_err-read_slot_into-clause-stopped
returns-in_err-read_slot_into-clause-stopped g c =
    passed_on c.from_residual.result _ c.in_err-read_slot_into.field-0.0 c.from_residual.ensures.1
    (λ left. stops_by_read g.S.SpellsDamage.line _ _ _ _ _ c.in_err-read_slot_into.ensures.halt)

pub returns-then-not-branch-clause-found : goal.returns-then-not-branch-clause-found
returns-then-not-branch-clause-found g c = λ left.
    let view = g.D.Disk.view in
    finds_shown g.S.SpellsDamage.line nothing (slots_found (suc left) c.args.slot c.args.ids.now.items) (slots_found left (suc c.args.slot) c.args.ids.now.items) _ _ _ _ _ _
    (shows_closed c.args.slot c.args.ids.now.items c.read_slot_into.new.bytes left _ _
    (subst (λ (b : Bool). Shows (view c.args.disk.now) (view c.read_slot_into.new.disk) (ReadsSlot c.args.slot b c.read_slot_into.new.bytes)) c.if-not-branch.true
    c.in_ok-read_slot_into.ensures.shown))
    (reports_nothing g.S.SpellsDamage.line _ _)

pub returns-in_err-id-clause-stopped : goal.returns-in_err-id-clause-stopped
returns-in_err-id-clause-stopped g c =
    let view = g.D.Disk.view in
    let read = subst (λ (b : Bool). Shows (view c.args.disk.now) (view c.read_slot_into.new.disk) (ReadsSlot c.args.slot b c.read_slot_into.new.bytes)) c.if-not-branch.false
    c.in_ok-read_slot_into.ensures.shown in
    passed_on c.from_residual-in_err-id.result _ c.in_err-id.field-0.0 c.from_residual-in_err-id.ensures.1
    (stops_open g.S.SpellsDamage.line c.args.slot c.args.ids.now.items c.deref.result.now c.read_slot_into.new.bytes c.deref.ensures.value _ _ read _ _ c.in_err-id.field-0.0
    c.in_err-id.ensures.halt.1)

pub returns-clause-found : goal.returns-clause-found
returns-clause-found g c =
    let view = g.D.Disk.view in
    let read = subst (λ (b : Bool). Shows (view c.args.disk.now) (view c.read_slot_into.new.disk) (ReadsSlot c.args.slot b c.read_slot_into.new.bytes)) c.if-not-branch.false
    c.in_ok-read_slot_into.ensures.shown in
    ok_map c.add_id.result (finds_open g.S.SpellsDamage.line c.args.slot c.args.ids.now.items c.deref.result.now c.read_slot_into.new.bytes c.deref.ensures.value _ _ read _ _ _ _
    c.in_ok-id.id c.in_ok-id.ensures.id c.in_ok-id.ensures.done c.add_id.new.ids.items)
    c.add_id.ensures.added

pub returns-clause-stopped : goal.returns-clause-stopped
returns-clause-stopped g c =
    let view = g.D.Disk.view in
    let read = subst (λ (b : Bool). Shows (view c.args.disk.now) (view c.read_slot_into.new.disk) (ReadsSlot c.args.slot b c.read_slot_into.new.bytes)) c.if-not-branch.false
    c.in_ok-read_slot_into.ensures.shown in
    map_err c.add_id.result _ _ (λ halt is. stops_without_id g.S.SpellsDamage.line c.args.slot c.args.ids.now.items c.deref.result.now c.read_slot_into.new.bytes
    c.deref.ensures.value _ _ read _ _ _ _ c.in_ok-id.id c.in_ok-id.ensures.id c.in_ok-id.ensures.done halt is c.in_ok-read_slot_into.ensures.reads.only)
    c.add_id.ensures.halt
