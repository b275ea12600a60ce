use Rattle.std.proofs.Common.{Option, Some, Ok, inr, ap, sym, subst, ◌∙◌}
use Rattle.std.specs.Prelude.{IfSome}
use Rattle.container_meta.specs.Places.{PlaceMap}
use Rattle.container_meta.specs.declared.place.Place.{Place}
use Rattle.read_steps.specs.Trees.{IsHeld}
use Rattle.read_steps.specs.Visiting.{HasPlace, VisitsPlaced}
use Rattle.read_steps.specs.Walking.{WasRead}
use Rattle.read_steps.proofs.Visits.{visit_falls}
use Rattle.read_steps.proofs.TreeWalks.{held_past, key_is}
use Rattle.read_steps.proofs.trees.walk_next.Goals as goal

pub returns-then-branch-clause-held : goal.returns-then-branch-clause-held
returns-then-branch-clause-held g c counts held image indexed is =
    subst (IsHeld counts held image) (sym c.skip.ensures.rest)
    (held_past counts held image c.args.passed.now c.args.cursor.now (c.in_ok-note.ensures.there (ap Ok c.if-branch.true)).0 is)

pub returns-clause-step : goal.returns-clause-step
returns-clause-step g c done =
    let old = g.D.Disk.view c.args.disk.now in
    let new = g.D.Disk.view c.visit.new.disk in
    let known : Option PlaceMap = Some c.args.index.now in
    let place : Place = c.in-Some-2.place in
    let visits = subst (λ (found : Option Place). IfSome found (VisitsPlaced known old new c.args.cursor.now c.visit.new.cursor)) c.in-Some-2.is c.in_ok-place.ensures.visits in
    let key = key_is c.args.cursor.now visits.1.0.0 visits.0 c.in-Some.key visits.1.0.1.0 (sym c.next_key.ensures ∙ c.in-Some.is) in
    inr (
      c.in_ok-note.ensures.new (ap Ok c.if-branch.false),
      (place, (visits, subst (λ k. g.N.NotesKeys.notes c.args.notes.now k place c.note-in-Some-2.new.self) key c.in_ok-note-in-Some-2.ensures.noted)),
    )

pub returns-clause-falls : goal.returns-clause-falls
returns-clause-falls g c done =
    let old = g.D.Disk.view c.args.disk.now in
    let new = g.D.Disk.view c.visit.new.disk in
    let known : Option PlaceMap = Some c.args.index.now in
    let visits = subst (λ (found : Option Place). IfSome found (VisitsPlaced known old new c.args.cursor.now c.visit.new.cursor)) c.in-Some-2.is c.in_ok-place.ensures.visits in
    visit_falls (WasRead known old new) (HasPlace known) c.args.cursor.now c.visit.new.cursor visits.0 visits.1.0
