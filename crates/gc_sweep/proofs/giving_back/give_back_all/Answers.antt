use Rattle.gc_sweep.proofs.Prelude.{Done, passed, blames, ChangesGatesAlone, GivesBack, refl}
use Rattle.dd_disk.specs.Ending.{ending_of}
use Rattle.gc_sweep.proofs.Released.{are_apart, gates_alone, gives_back}
use Rattle.gc_sweep.proofs.giving_back.give_back_all.Goals as goal

pub close_all-requires : goal.close_all-requires
close_all-requires g c =
    are_apart (g.D.Disk.view c.args.disk.now).size c.requires.runs.0 c.args.tables.now c.args.slots.now c.requires.runs.1 c.requires.within c.requires.once

pub returns-in_err-close_all-clause-moves : goal.returns-in_err-close_all-clause-moves
returns-in_err-close_all-clause-moves g c =
    let old = g.D.Disk.view c.args.disk.now in
    let new = g.D.Disk.view c.close_all.new.disk in
    let e = c.in_err-close_all.field-0.0 in
    let apart = are_apart old.size c.requires.runs.0 c.args.tables.now c.args.slots.now c.requires.runs.1 c.requires.within c.requires.once in
    passed (λ x. GivesBack c.args.tables.now c.args.slots.now x old new) blames c.from_residual.result e c.from_residual.ensures.1
    (gives_back c.args.tables.now c.args.slots.now c.requires.there c.requires.once old.size apart
    (λ a b long freed. c.freed_one_by_one.ensures.some old.size c.args.slots.now a b apart long freed)
    (λ a b long freed. c.freed_one_by_one.ensures.all old.size c.args.slots.now a b apart long freed)
    (ending_of (blames e)) old new refl c.in_err-close_all.ensures.writes)

pub returns-in_err-close_all-clause-frame : goal.returns-in_err-close_all-clause-frame
returns-in_err-close_all-clause-frame g c =
    let old = g.D.Disk.view c.args.disk.now in
    let new = g.D.Disk.view c.close_all.new.disk in
    let e = c.in_err-close_all.field-0.0 in
    passed (λ x. ChangesGatesAlone c.args.slots.now x old new) blames c.from_residual.result e c.from_residual.ensures.1
    (gates_alone c.args.slots.now (ending_of (blames e)) old new c.in_err-close_all.ensures.writes)

pub returns-clause-moves : goal.returns-clause-moves
returns-clause-moves g c =
    let old = g.D.Disk.view c.args.disk.now in
    let apart = are_apart old.size c.requires.runs.0 c.args.tables.now c.args.slots.now c.requires.runs.1 c.requires.within c.requires.once in
    gives_back c.args.tables.now c.args.slots.now c.requires.there c.requires.once old.size apart
    (λ a b long freed. c.freed_one_by_one.ensures.some old.size c.args.slots.now a b apart long freed)
    (λ a b long freed. c.freed_one_by_one.ensures.all old.size c.args.slots.now a b apart long freed)
    Done old (g.D.Disk.view c.close_all.new.disk) refl c.in_ok-close_all.ensures.writes

pub returns-clause-frame : goal.returns-clause-frame
returns-clause-frame g c =
    gates_alone c.args.slots.now Done (g.D.Disk.view c.args.disk.now) (g.D.Disk.view c.close_all.new.disk) c.in_ok-close_all.ensures.writes
