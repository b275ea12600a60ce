use Rattle.store_core.proofs.Prelude.{[], None, arith, sym, err_from_is_err_and}
use Rattle.std.proofs.lemmas.List.{length-take-le}
use Rattle.store_core.proofs.MarkedSteps.{seal_alike, seal_collects, seal_refused, seal_without_memory, marks_moved, restores_moved}
use Rattle.store_core.proofs.running.Core.seal.Goals as goal

pub slice_bounds-mark_containers-end : goal.slice_bounds-mark_containers-end
slice_bounds-mark_containers-end g c =
    let runs = c.requires.up.runs in
    let room = (c.room_for-room.ensures _ None).store_has runs.store runs.represents runs.valid runs.has_free in
    sym (length-take-le c.room_for-room.result c.args.filled.now (omega (arith, room)))

pub returns-in_err-fresh-clause-made : goal.returns-in_err-fresh-clause-made
returns-in_err-fresh-clause-made g c =
    let p = err_from_is_err_and c.from_residual.result c.from_residual.ensures.1 in
    rw (p.1, p.2, c.in_err-fresh.ensures.refused) (λ bytes stop count. seal_without_memory c.args.filled.now c.args.actor bytes _ c.mark_containers.new.collection stop count)

pub returns-in_err-fresh-clause-collects : goal.returns-in_err-fresh-clause-collects
returns-in_err-fresh-clause-collects g c = seal_refused c.args.filled.now c.from_residual.result c.args.self.now.collection c.mark_containers.new.collection
    c.from_residual.ensures.0 c.in_err-fresh.ensures.kept

pub returns-clause-made : goal.returns-clause-made
returns-clause-made g c = λ bytes stop count.
    seal_alike _ _ c.mark_containers.new.collection c.seal_alone-answer.new.self.collection c.args.filled.now c.args.actor c.seal_alone-answer.result bytes
    (c.seal_alone-answer.ensures.made bytes stop count)

pub returns-clause-collects : goal.returns-clause-collects
returns-clause-collects g c =
    let old = c.args.self.now.collection in
    let marked = c.mark_containers.new.collection in
    let moved = c.seal_alone-answer.new.self.collection in
    let same = c.seal_alone-answer.ensures.collection in
    seal_collects old moved c.unmark_unless.new.collection c.deref.result.now
    (restores_moved old marked moved c.in_ok-fresh.fresh.items c.deref.result.now same c.deref.ensures.value c.in_ok-fresh.ensures.fresh)
    c.args.filled.now c.args.actor c.seal_alone-answer.result _ _ c.is_ok.result c.room_for-room.result (c.seal_alone-answer.ensures.made [] None 0).row
    c.requires.up.runs c.room_for-room.ensures
    (marks_moved _ old marked moved same c.in_ok-fresh.ensures.marks) c.is_ok.ensures.value
    c.unmark_unless.ensures.kept c.unmark_unless.ensures.undone
