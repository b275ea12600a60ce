use Rattle.recovery.proofs.Prelude.{ℕ, List, [], ◌∷◌, ◌++◌, refl, sym, arith, subst, passed_on, Done, Reads, ending_of, Shows, always, reads_none, passed, Memory, blames, AreSlots}
use Rattle.container_meta.specs.Spelling.{held_with}
use Rattle.dd_disk.proofs.Ended.{reads_on, reads_then}
use Rattle.container_meta.specs.declared.entry.Entry.{Entry}
use Rattle.store_state.specs.Containers.{RepresentsContainers}
use Rattle.recovery.proofs.Used.{no_ids}
use Rattle.recovery.proofs.Reading.{none_yet, more, no_more, refused}
use Rattle.recovery.proofs.slots.read_slots.Goals as goal

pub loop-slot-init : goal.loop-slot-init
loop-slot-init g c = (reads_none _, (none_yet _ c.new-tables.result c.new-tables.ensures, (no_ids _ c.new-ids.ensures.empty, c.in_ok-room.ensures)))

pub returns-in_err-room-clause-only : goal.returns-in_err-room-clause-only
returns-in_err-room-clause-only g c = passed_on c.from_residual.result _ Memory c.from_residual.ensures.1 (always _ _ _ (λ image sized held many holds differ. refl))

pub returns-in_err-held-clause-only : goal.returns-in_err-held-clause-only
returns-in_err-held-clause-only g c =
    let part = c.loop-slot.invariant.1.0 in
    let reads = c.in_err-held.ensures.reads in
    passed_on c.from_residual-in_err-held.result _ c.in_err-held.field-0.0 c.from_residual-in_err-held.ensures.1
    (no_more _ _ _ c.loop-slot.slot c.loop-slot.tables part c.loop-slot.invariant.0.only reads.only c.args.slots c.in_err-held.field-0.0 c.loop-slot-test.true
    (c.in_err-held.ensures.only part.held c.loop-slot.invariant.1.1.0))

pub returns-in_err-held-clause-reads : goal.returns-in_err-held-clause-reads
returns-in_err-held-clause-reads g c =
    let view = g.D.Disk.view in
    passed (λ e. Reads e (view c.args.disk.now) (view c.read_next.new.disk)) blames c.from_residual-in_err-held.result c.in_err-held.field-0.0 c.from_residual-in_err-held.ensures.1
    (reads_on (ending_of (blames c.in_err-held.field-0.0)) _ _ _ c.loop-slot.invariant.0 c.in_err-held.ensures.reads)

pub returns-in_err-held-clause-refused : goal.returns-in_err-held-clause-refused
returns-in_err-held-clause-refused g c =
    let part = c.loop-slot.invariant.1.0 in
    let reads = c.in_err-held.ensures.reads in
    passed_on c.from_residual-in_err-held.result _ c.in_err-held.field-0.0 c.from_residual-in_err-held.ensures.1
    (refused _ _ _ c.loop-slot.slot c.loop-slot.tables part c.loop-slot.invariant.0.only reads.only c.args.slots c.in_err-held.field-0.0 c.loop-slot-test.true
    (c.in_err-held.ensures.refused part.held c.loop-slot.invariant.1.1.0))

pub returns-in_err-take-clause-only : goal.returns-in_err-take-clause-only
returns-in_err-take-clause-only g c =
    passed_on c.from_residual-in_err-take.result _ Memory c.from_residual-in_err-take.ensures.1 (always _ _ _ (λ image sized held many holds differ. refl))

pub returns-in_err-take-clause-reads : goal.returns-in_err-take-clause-reads
returns-in_err-take-clause-reads g c =
    let view = g.D.Disk.view in
    passed (λ e. Reads e (view c.args.disk.now) (view c.read_next.new.disk)) blames c.from_residual-in_err-take.result Memory c.from_residual-in_err-take.ensures.1
    (reads_then (view c.args.disk.now) (view c.read_next.new.disk)
    (reads_on Done (view c.args.disk.now) (view c.loop-slot.disk) (view c.read_next.new.disk) c.loop-slot.invariant.0 c.in_ok-held.ensures.reads))

pub loop-slot-preserved : goal.loop-slot-preserved
loop-slot-preserved g c =
    let part = c.loop-slot.invariant.1.0 in
    let reads = c.in_ok-held.ensures.reads in
    let seen = g.D.Disk.view in
    let follows = c.in_ok-held.ensures.follows part.held c.loop-slot.invariant.1.1.0 in
    let taken : RepresentsContainers (part.held ++ held_with c.in_ok-held.held c.read_next.new.room.entries.items ∷ []) c.take.new.self =
    subst (λ (es : List Entry). RepresentsContainers (part.held ++ held_with c.in_ok-held.held es ∷ []) c.take.new.self) c.deref.ensures.value
    (c.in_ok-take.ensures part.held (sym part.many) part.represents) in (
      reads_on Done (seen c.args.disk.now) (seen c.loop-slot.disk) (seen c.read_next.new.disk) c.loop-slot.invariant.0 reads,
      (
        more _ _ _ c.loop-slot.slot c.loop-slot.tables part c.loop-slot.invariant.0.only reads.only c.take.new.self (held_with c.in_ok-held.held c.read_next.new.room.entries.items)
            follows.0 c.in_ok-held.ensures.shown taken,
        (follows.1, c.in_ok-held.ensures.room),
      ),
    )

pub returns-clause-found : goal.returns-clause-found
returns-clause-found g c =
    let view = g.D.Disk.view in
    subst (λ (n : ℕ). AreSlots (Shows (view c.args.disk.now) (view c.loop-slot.disk)) n c.loop-slot.tables) (omega (arith, c.loop-slot-test.false, c.loop-slot.auto.slot-end))
    c.loop-slot.invariant.1.0
