use Rattle.ingest_steps.proofs.Prelude.{ℕ, ◌+◌, None, ap, refl, sym, subst, ◌∙◌, Done, ending_of, passed, Steps, Runs, SealsContainer, SealsIndexed, slot_at, SameBefore}
use Rattle.store_state.specs.Refused.{blames}
use Rattle.ingest_steps.proofs.SealedTables.{place_on_disk, slots_on_disk, steps_refused, steps_on, seals_refused, seals_on, steps_broken, map_on, no_content}
use Rattle.ingest_steps.proofs.sealing.seal_indexed.Goals as goal

pub returns-clause-ok : goal.returns-clause-ok
returns-clause-ok g c = λ spares has. c.take_sealed.ensures spares _ _ has

pub put_entries-requires-clause-slot : goal.put_entries-requires-clause-slot
put_entries-requires-clause-slot g c =
    let old = g.D.Disk.view c.args.disk.now in
    place_on_disk old.size None c.args.tables.now c.args.slot c.requires.slot.1 c.requires.state

pub put_entries-requires-clause-slots : goal.put_entries-requires-clause-slots
put_entries-requires-clause-slots g c = record {
  slots = c.args.tables.now.slots;
  size_is = slots_on_disk
      (g.D.Disk.view c.args.disk.now).size None c.args.tables.now c.requires.state;
}

pub returns-in_err-put_entries-clause-disk : goal.returns-in_err-put_entries-clause-disk
returns-in_err-put_entries-clause-disk g c =
    let old = g.D.Disk.view c.args.disk.now in
    let new = g.D.Disk.view c.put_entries.new.disk in
    let t = c.args.tables.now in
    let e = c.in_err-put_entries.field-0.0 in
    passed (λ x. Steps t.slots x old new) blames c.from_residual.result e c.from_residual.ensures.1
    (steps_refused t.slots (blames e) old new
    (c.in_err-put_entries.ensures.changes t.slots (slots_on_disk old.size None t c.requires.state)))

pub returns-in_err-put_entries-clause-moves : goal.returns-in_err-put_entries-clause-moves
returns-in_err-put_entries-clause-moves g c =
    let old = g.D.Disk.view c.args.disk.now in
    let new = g.D.Disk.view c.put_entries.new.disk in
    let t = c.args.tables.now in
    let e = c.in_err-put_entries.field-0.0 in
    passed (λ x. SealsIndexed t (t.held.last_id + 1) c.args.filled.now x old new) blames c.from_residual.result e c.from_residual.ensures.1
    (seals_refused t (t.held.last_id + 1) c.args.filled.now (blames e) old new
    (c.in_err-put_entries.ensures.changes t.slots (slots_on_disk old.size None t c.requires.state)))

pub seal_container-requires-clause-state : goal.seal_container-requires-clause-state
seal_container-requires-clause-state g c =
    let old = g.D.Disk.view c.args.disk.now in
    let t = c.args.tables.now in
    let changes = c.in_ok-put_entries.ensures.changes t.slots (slots_on_disk old.size None t c.requires.state) in
    (None, subst (λ (n : ℕ). Runs n None t) (sym changes.later.size_is) c.requires.state)

pub returns-in_err-digest-clause-disk : goal.returns-in_err-digest-clause-disk
returns-in_err-digest-clause-disk g c =
    let old = g.D.Disk.view c.args.disk.now in
    let mid = g.D.Disk.view c.put_entries.new.disk in
    let new = g.D.Disk.view c.seal_container.new.disk in
    let t = c.args.tables.now in
    let e = c.in_err-digest.field-0.0 in
    let changes = c.in_ok-put_entries.ensures.changes t.slots (slots_on_disk old.size None t c.requires.state) in
    passed (λ x. Steps t.slots x old new) blames c.from_residual-in_err-digest.result e c.from_residual-in_err-digest.ensures.1
    (steps_broken t.slots old mid new e c.in_err-digest.ensures.refused changes c.in_err-digest.ensures.disk)

pub returns-in_err-digest-clause-moves : goal.returns-in_err-digest-clause-moves
returns-in_err-digest-clause-moves g c =
    let old = g.D.Disk.view c.args.disk.now in
    let mid = g.D.Disk.view c.put_entries.new.disk in
    let new = g.D.Disk.view c.seal_container.new.disk in
    let t = c.args.tables.now in
    let e = c.in_err-digest.field-0.0 in
    let id = t.held.last_id + 1 in
    let changes = c.in_ok-put_entries.ensures.changes t.slots (slots_on_disk old.size None t c.requires.state) in
    passed (λ x. SealsIndexed t id c.args.filled.now x old new) blames c.from_residual-in_err-digest.result e c.from_residual-in_err-digest.ensures.1
    (seals_on t id c.args.filled.now (ending_of (blames e)) old mid new changes
    (subst (λ (i : ℕ). SealsContainer t i c.args.filled.now (ending_of (blames e)) mid new) c.next_id-id.ensures.next c.in_err-digest.ensures.moves)
    c.args.slot c.requires.slot.1 c.in_err-digest.ensures.disk.later c.in_err-digest.ensures.frame)

pub returns-clause-map : goal.returns-clause-map
returns-clause-map g c =
    let view = g.D.Disk.view in
    let old = view c.args.disk.now in
    let mid = view c.put_entries.new.disk in
    let new = view c.seal_container.new.disk in
    let t = c.args.tables.now in
    let index = c.put_entries.new.index in
    let places = g.X.Index.places index in
    let changes = c.in_ok-put_entries.ensures.changes t.slots (slots_on_disk old.size None t c.requires.state) in
    record {
      told = λ given content m known_is. map_on places (g.X.Index.owned_from index) (g.met.X.Index.places_stay index) (g.X.Index.serves index)
          (g.met.X.Index.owns_no_slot index) old.size None t c.args.slot c.requires.slot.1 c.requires.state
          old mid new changes refl given content c.in_ok-put_entries.ensures.served c.in_ok-digest.ensures.same
          ∙ c.in_ok-put_entries.ensures.ok m known_is;
      untold = λ none m known_is.
          let content = g.X.Index.places c.args.index.now in
          ap places (sym (no_content (SameBefore (slot_at t.slots)) old.content mid.content changes.content_is none))
          ∙ c.in_ok-put_entries.ensures.ok m (ap content none ∙ known_is);
    }

pub returns-clause-disk : goal.returns-clause-disk
returns-clause-disk g c =
    let old = g.D.Disk.view c.args.disk.now in
    let mid = g.D.Disk.view c.put_entries.new.disk in
    let new = g.D.Disk.view c.seal_container.new.disk in
    let t = c.args.tables.now in
    let changes = c.in_ok-put_entries.ensures.changes t.slots (slots_on_disk old.size None t c.requires.state) in
    steps_on t.slots old mid new changes c.in_ok-digest.ensures.disk c.in_ok-digest.ensures.durable

pub returns-clause-moves : goal.returns-clause-moves
returns-clause-moves g c =
    let old = g.D.Disk.view c.args.disk.now in
    let mid = g.D.Disk.view c.put_entries.new.disk in
    let new = g.D.Disk.view c.seal_container.new.disk in
    let t = c.args.tables.now in
    let changes = c.in_ok-put_entries.ensures.changes t.slots (slots_on_disk old.size None t c.requires.state) in
    seals_on t (t.held.last_id + 1) c.args.filled.now Done old mid new changes
    (subst (λ (i : ℕ). SealsContainer t i c.args.filled.now Done mid new) c.next_id-id.ensures.next c.in_ok-digest.ensures.moves)
    c.args.slot c.requires.slot.1 c.in_ok-digest.ensures.disk.later c.in_ok-digest.ensures.frame
