use Rattle.recovery.proofs.Prelude.{◌∙◌, map, sym, subst, passed_on, listed_value, listing_of, AllHeld}
use Rattle.recovery.proofs.MarkedSlots.{marks_for, marks_long, slot_within}
use Rattle.recovery.proofs.room.mark_needed.Goals as goal

pub walk_trees-requires-clause-takes : goal.walk_trees-requires-clause-takes
walk_trees-requires-clause-takes g c p is =
    slot_within c.args.slots (g.D.Disk.view c.args.disk.now).size c.in_ok-marks.marks p c.in_ok-marks.ensures c.requires.slots is

pub returns-in_err-walk_trees-clause-failed : goal.returns-in_err-walk_trees-clause-failed
returns-in_err-walk_trees-clause-failed g c =
    passed_on c.from_residual-in_err-walk_trees.result _ c.in_err-walk_trees.field-0.0 c.from_residual-in_err-walk_trees.ensures.1
    (λ counts held image indexed all. c.in_err-walk_trees.ensures.failed counts held image indexed
    (subst (AllHeld counts held image) (sym (c.names.ensures ∙ c.in_ok-files.ensures)) all))

pub returns-clause-marks : goal.returns-clause-marks
returns-clause-marks g c =
    let view = g.D.Disk.view in
    marks_for c.args.index.now (view c.args.disk.now) (view c.walk_trees.new.disk) (listing_of c.args.names.now) (map listed_value c.names.result.now) c.in_ok-marks.marks
    c.walk_trees.new.notes c.into_slots.result.items c.args.slots c.in_ok-marks.ensures c.in_ok-walk_trees.ensures.notes c.into_slots.ensures
    (c.names.ensures ∙ c.in_ok-files.ensures)

pub returns-clause-size : goal.returns-clause-size
returns-clause-size g c =
    let view = g.D.Disk.view in
    marks_long c.args.index.now (view c.args.disk.now) (view c.walk_trees.new.disk) (listing_of c.args.names.now) (map listed_value c.names.result.now) c.in_ok-marks.marks
    c.walk_trees.new.notes c.into_slots.result.items c.args.slots c.in_ok-marks.ensures c.in_ok-walk_trees.ensures.notes c.into_slots.ensures
