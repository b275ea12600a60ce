use Rattle.recovery.proofs.Prelude.{List, ◌≤◌, ℕ, length, ap, sym, subst, ◌∙◌, passed_on, size_of, NamedRoot, listing_of, AllHeld, IsTreesRefusal, few_ids, partial_of}
use Rattle.disk_format.specs.declared.numbers.TheConstants.{MOST_SLOTS}
use Rattle.store_state.proofs.Serving.{index_serves}
use Rattle.recovery.proofs.Rooms.{by_given, by_stopped, makes_room, marks_of, size_ids, slots_ids, stops_room, walk_failed}
use Rattle.recovery.proofs.room.make_room.Goals as goal

pub mark_needed-requires-clause-serves : goal.mark_needed-requires-clause-serves
mark_needed-requires-clause-serves g c =
    let read = c.requires.read in
    index_serves (g.D.Disk.view c.args.disk.now).size read.store c.args.opened.containers.index read.valid
    (partial_of read.store.held c.args.opened.containers.index read.represents.containers.index)

pub mark_needed-requires-clause-slots : goal.mark_needed-requires-clause-slots
mark_needed-requires-clause-slots g c = size_ids (g.D.Disk.view c.args.disk.now).size c.args.opened c.requires.read.store c.requires.read.represents c.requires.read.valid

pub returns-in_err-used-clause-unmade : goal.returns-in_err-used-clause-unmade
returns-in_err-used-clause-unmade g c =
    let view = g.D.Disk.view in
    let old = view c.args.disk.now in
    let mid = view c.mark_needed.new.disk in
    let error = c.in_err-used.field-0.0 in
    let index = c.args.opened.containers.index in
    passed_on c.from_residual.result _ error c.from_residual.ensures.1 (λ store represents valid free.
    walk_failed store index old mid error c.requires.durable c.in_err-used.ensures.reads
    (subst (λ (ns : List NamedRoot). IsTreesRefusal index old mid ns error) (ap listing_of represents.journal.names_are) c.in_err-used.ensures.refused)
    (λ counts held image indexed all. c.in_err-used.ensures.failed counts held image indexed
    (subst (AllHeld counts held image) (sym (ap listing_of represents.journal.names_are)) all)))

pub give_back-requires-clause-ids : goal.give_back-requires-clause-ids
give_back-requires-clause-ids g c =
    let read = c.requires.read in
    subst (λ (ids : List ℕ). length ids ≤ MOST_SLOTS) (sym c.as_mut_slice.ensures.value)
    (few_ids (g.D.Disk.view c.args.disk.now).size read.store c.args.opened read.valid read.represents)

pub give_back-requires-clause-used : goal.give_back-requires-clause-used
give_back-requires-clause-used g c =
    let read = c.requires.read in
    ap length c.deref.ensures.value ∙ c.in_ok-used.ensures.size ∙ sym (slots_ids (g.D.Disk.view c.args.disk.now).size c.args.opened read.store read.represents read.valid)
    ∙ ap length (sym c.as_mut_slice.ensures.value)

pub give_back-requires-clause-size : goal.give_back-requires-clause-size
give_back-requires-clause-size g c =
    let read = c.requires.read in
    let size = (g.D.Disk.view c.args.disk.now).size in
    c.in_ok-used.ensures.reads.only.later.size_is ∙ size_ids size c.args.opened read.store read.represents read.valid
    ∙ ap size_of (sym (slots_ids size c.args.opened read.store read.represents read.valid) ∙ ap length (sym c.as_mut_slice.ensures.value))

pub returns-clause-made : goal.returns-clause-made
returns-clause-made g c =
    let view = g.D.Disk.view in
    let old = view c.args.disk.now in
    let mid = view c.mark_needed.new.disk in
    let new = view c.give_back.new.disk in
    let index = c.args.opened.containers.index in
    by_given c.give_back.result old mid new _ _ c.in_ok-used.ensures.reads.faults_are c.give_back.ensures.faults c.give_back.ensures.given c.give_back.ensures.durable
    (λ gives durable faults store represents valid free.
    makes_room store index old mid new c.in_ok-used.ensures.reads.only c.deref.result.now c.as_mut_slice.result.now c.args.closed valid represents.containers.index
    (c.as_mut_slice.ensures.value ∙ represents.containers.ids) free
    (marks_of store index old mid _ _ _ (ap listing_of represents.journal.names_are) c.deref.ensures.value c.in_ok-used.ensures.marks) c.give_back.ensures.later gives durable
    faults)

pub returns-clause-unmade : goal.returns-clause-unmade
returns-clause-unmade g c =
    let view = g.D.Disk.view in
    let old = view c.args.disk.now in
    let mid = view c.mark_needed.new.disk in
    let new = view c.give_back.new.disk in
    let index = c.args.opened.containers.index in
    by_stopped c.give_back.result old mid new _ _ c.in_ok-used.ensures.reads.faults_are c.give_back.ensures.faults c.give_back.ensures.cut c.give_back.ensures.refused
    (λ refusal stops is faults store represents valid free.
    stops_room store index old mid new c.in_ok-used.ensures.reads.only c.deref.result.now c.as_mut_slice.result.now c.args.closed valid represents.containers.index
    (c.as_mut_slice.ensures.value ∙ represents.containers.ids) free
    (marks_of store index old mid _ _ _ (ap listing_of represents.journal.names_are) c.deref.ensures.value c.in_ok-used.ensures.marks) c.give_back.ensures.later refusal stops is
    faults)
