use Rattle.ingest_steps.proofs.Prelude.{◌+◌, ◌∙◌, ℕ, None, ap, arith, refl, sym, subst, Done, ending_of, passed, reads_here, slot_at, SameBefore, Steps, Runs}
use Rattle.container_log.specs.Many.{placed}
use Rattle.store_state.specs.Refused.{blames}
use Rattle.ingest_steps.specs.SealingAll.{AreSizes, SealsData, SealsPlaced}
use Rattle.ingest_steps.proofs.PlacedOn.{map_on_all, memory_here, offer_refused, placed_changed, placed_data, placed_on, places_are, slots_placed}
use Rattle.ingest_steps.proofs.SealedAll.{ids_right, places_lie}
use Rattle.ingest_steps.proofs.SealedTables.{no_content, slots_on_disk, steps_broken, steps_on, steps_refused}
use Rattle.ingest_steps.proofs.sealing_all.seal_indexed_all.Goals as goal

pub next_id-id-requires : goal.next_id-id-requires
next_id-id-requires g c =
    let size = (g.D.Disk.view c.args.disk.now).size in
    let runs = c.requires.state in
    let at = (c.requires.slots.1 size None).store_has runs.store runs.represents runs.valid runs.has_free in
    omega (arith, at.many, at.some)

pub returns-in_err-sizes-clause-disk : goal.returns-in_err-sizes-clause-disk
returns-in_err-sizes-clause-disk g c = memory_here c.args.tables.now.slots (g.D.Disk.view c.args.disk.now) c.from_residual.result c.from_residual.ensures.1

pub returns-in_err-sizes-clause-moves : goal.returns-in_err-sizes-clause-moves
returns-in_err-sizes-clause-moves g c =
    let view = g.D.Disk.view in
    let old = view c.args.disk.now in
    let t = c.args.tables.now in
    let slots = c.args.slots.now in
    let filled = c.args.filled.now in
    let known = g.X.Index.places c.args.index.now old.content in
    let ps = placed slots (t.held.last_id + 1) filled in
    offer_refused t known (λ _. ps) old c.from_residual.result _ c.from_residual.ensures.1 (reads_here old)

pub returns-in_err-image-clause-disk : goal.returns-in_err-image-clause-disk
returns-in_err-image-clause-disk g c = memory_here c.args.tables.now.slots
    (g.D.Disk.view c.args.disk.now) c.from_residual-in_err-image.result c.from_residual-in_err-image.ensures.1

pub returns-in_err-image-clause-moves : goal.returns-in_err-image-clause-moves
returns-in_err-image-clause-moves g c =
    let view = g.D.Disk.view in
    let old = view c.args.disk.now in
    let t = c.args.tables.now in
    let slots = c.args.slots.now in
    let filled = c.args.filled.now in
    let known = g.X.Index.places c.args.index.now old.content in
    let ps = placed slots (t.held.last_id + 1) filled in
    offer_refused t known (λ _. ps) old c.from_residual-in_err-image.result _ c.from_residual-in_err-image.ensures.1 (reads_here old)

pub returns-in_err-digests-clause-disk : goal.returns-in_err-digests-clause-disk
returns-in_err-digests-clause-disk g c = memory_here c.args.tables.now.slots
    (g.D.Disk.view c.args.disk.now) c.from_residual-in_err-digests.result c.from_residual-in_err-digests.ensures.1

pub returns-in_err-digests-clause-moves : goal.returns-in_err-digests-clause-moves
returns-in_err-digests-clause-moves g c =
    let view = g.D.Disk.view in
    let old = view c.args.disk.now in
    let t = c.args.tables.now in
    let slots = c.args.slots.now in
    let filled = c.args.filled.now in
    let known = g.X.Index.places c.args.index.now old.content in
    let ps = placed slots (t.held.last_id + 1) filled in
    offer_refused t known (λ _. ps) old c.from_residual-in_err-digests.result _ c.from_residual-in_err-digests.ensures.1 (reads_here old)

pub put_each-requires-clause-lie : goal.put_each-requires-clause-lie
put_each-requires-clause-lie g c =
    places_lie (g.D.Disk.view c.args.disk.now).size None c.args.tables.now c.requires.state c.requires.slots.0 c.args.slots.now c.requires.slots.1

pub put_each-requires-clause-slots : goal.put_each-requires-clause-slots
put_each-requires-clause-slots g c = record {
  slots = c.args.tables.now.slots;
  size_is = slots_on_disk (g.D.Disk.view c.args.disk.now).size None c.args.tables.now c.requires.state;
}

pub returns-in_err-put_each-clause-disk : goal.returns-in_err-put_each-clause-disk
returns-in_err-put_each-clause-disk g c =
    let view = g.D.Disk.view in
    let old = view c.args.disk.now in
    let t = c.args.tables.now in
    let new = view c.put_each.new.disk in
    let e = c.in_err-put_each.field-0.0 in
    passed (λ x. Steps t.slots x old new) blames c.from_residual-in_err-put_each.result e c.from_residual-in_err-put_each.ensures.1
    (steps_refused t.slots (blames e) old new (c.in_err-put_each.ensures.changes t.slots (slots_on_disk old.size None t c.requires.state)))

pub returns-in_err-put_each-clause-moves : goal.returns-in_err-put_each-clause-moves
returns-in_err-put_each-clause-moves g c =
    let view = g.D.Disk.view in
    let old = view c.args.disk.now in
    let t = c.args.tables.now in
    let slots = c.args.slots.now in
    let filled = c.args.filled.now in
    let known = g.X.Index.places c.args.index.now old.content in
    let ps = placed slots (t.held.last_id + 1) filled in
    let new = view c.put_each.new.disk in
    let e = c.in_err-put_each.field-0.0 in
    passed (λ x. SealsPlaced t known (λ _. ps) x old new) blames c.from_residual-in_err-put_each.result e c.from_residual-in_err-put_each.ensures.1
    (placed_changed t known (λ _. ps) (blames e) old new (c.in_err-put_each.ensures.changes t.slots (slots_on_disk old.size None t c.requires.state)))

pub seal_taken-requires-clause-state : goal.seal_taken-requires-clause-state
seal_taken-requires-clause-state g c =
    let view = g.D.Disk.view in
    let old = view c.args.disk.now in
    let t = c.args.tables.now in
    let changes = c.in_ok-put_each.ensures.changes t.slots (slots_on_disk old.size None t c.requires.state) in
    (None, subst (λ (n : ℕ). Runs n None t) (sym changes.later.size_is) c.requires.state)

pub seal_taken-requires-clause-known : goal.seal_taken-requires-clause-known
seal_taken-requires-clause-known g c =
    let view = g.D.Disk.view in
    let old = view c.args.disk.now in
    let t = c.args.tables.now in
    let slots = c.args.slots.now in
    let filled = c.args.filled.now in
    let ps = placed slots (t.held.last_id + 1) filled in (
      c.in_ok-sizes.ensures.right c.next_id-id.result (λ i within.
          ids_right old.size None t c.requires.state c.requires.slots.0 slots c.requires.slots.1 c.next_id-id.result c.next_id-id.ensures.next i
          (omega (arith, within, c.requires.many.0))),
      subst (AreSizes filled) (sym c.deref.ensures.value) c.in_ok-sizes.ensures.sizes,
    )

pub returns-in_err-seal_taken-clause-disk : goal.returns-in_err-seal_taken-clause-disk
returns-in_err-seal_taken-clause-disk g c =
    let view = g.D.Disk.view in
    let old = view c.args.disk.now in
    let t = c.args.tables.now in
    let mid = view c.put_each.new.disk in
    let changes = c.in_ok-put_each.ensures.changes t.slots (slots_on_disk old.size None t c.requires.state) in
    let new = view c.seal_taken.new.disk in
    let e = c.in_err-seal_taken.field-0.0 in
    passed (λ x. Steps t.slots x old new) blames c.from_residual-in_err-seal_taken.result e c.from_residual-in_err-seal_taken.ensures.1
    (steps_broken t.slots old mid new e c.in_err-seal_taken.ensures.refused changes c.in_err-seal_taken.ensures.disk)

pub returns-in_err-seal_taken-clause-moves : goal.returns-in_err-seal_taken-clause-moves
returns-in_err-seal_taken-clause-moves g c =
    let view = g.D.Disk.view in
    let old = view c.args.disk.now in
    let t = c.args.tables.now in
    let slots = c.args.slots.now in
    let filled = c.args.filled.now in
    let known = g.X.Index.places c.args.index.now old.content in
    let ps = placed slots (t.held.last_id + 1) filled in
    let mid = view c.put_each.new.disk in
    let changes = c.in_ok-put_each.ensures.changes t.slots (slots_on_disk old.size None t c.requires.state) in
    let new = view c.seal_taken.new.disk in
    let e = c.in_err-seal_taken.field-0.0 in
    passed (λ x. SealsPlaced t known (λ _. ps) x old new) blames c.from_residual-in_err-seal_taken.result e c.from_residual-in_err-seal_taken.ensures.1
    (placed_on t known (λ _. ps) (ending_of (blames e)) old mid new changes c.in_err-seal_taken.ensures.disk.later (placed_data t known slots ps (ending_of (blames e)) mid new
    (slots_placed slots (t.held.last_id + 1) filled c.requires.many.0)
    (subst (λ (i : ℕ). SealsData t (placed slots i filled) (ending_of
    (blames e)) mid new) c.next_id-id.ensures.next c.in_err-seal_taken.ensures.moves) c.in_err-seal_taken.ensures.frame))

pub returns-clause-ok : goal.returns-clause-ok
returns-clause-ok g c =
    let view = g.D.Disk.view in
    let old = view c.args.disk.now in
    let known = g.X.Index.places c.args.index.now old.content in
    let have = c.in_ok-seal_taken.ensures.ok old.size known in
    (have.last_is, have)

pub returns-clause-map : goal.returns-clause-map
returns-clause-map g c =
    let view = g.D.Disk.view in
    let old = view c.args.disk.now in
    let t = c.args.tables.now in
    let slots = c.args.slots.now in
    let filled = c.args.filled.now in
    let mid = view c.put_each.new.disk in
    let changes = c.in_ok-put_each.ensures.changes t.slots (slots_on_disk old.size None t c.requires.state) in
    let new = view c.seal_taken.new.disk in
    let index = c.put_each.new.index in
    let places = g.X.Index.places index in
    record {
      told = λ given content m known_is. map_on_all places (g.X.Index.owned_from index) (g.met.X.Index.places_stay index) (g.X.Index.serves index)
          (g.met.X.Index.owns_no_slot index) old.size None t c.requires.slots.0 slots c.requires.slots.1 c.requires.state
          old mid new changes refl given content c.in_ok-put_each.ensures.served c.in_ok-seal_taken.ensures.same
          ∙ c.in_ok-put_each.ensures.ok m known_is ∙ sym (places_are slots (t.held.last_id + 1) filled m);
      untold = λ none m known_is.
          ap places (sym (no_content (SameBefore (slot_at t.slots)) old.content mid.content changes.content_is none))
          ∙ c.in_ok-put_each.ensures.ok m (ap (g.X.Index.places c.args.index.now) none ∙ known_is) ∙ sym (places_are slots (t.held.last_id + 1) filled m);
    }

pub returns-clause-disk : goal.returns-clause-disk
returns-clause-disk g c =
    let view = g.D.Disk.view in
    let old = view c.args.disk.now in
    let t = c.args.tables.now in
    let mid = view c.put_each.new.disk in
    let changes = c.in_ok-put_each.ensures.changes t.slots (slots_on_disk old.size None t c.requires.state) in
    steps_on t.slots old mid (view c.seal_taken.new.disk) changes c.in_ok-seal_taken.ensures.disk c.in_ok-seal_taken.ensures.durable

pub returns-clause-moves : goal.returns-clause-moves
returns-clause-moves g c =
    let view = g.D.Disk.view in
    let old = view c.args.disk.now in
    let t = c.args.tables.now in
    let slots = c.args.slots.now in
    let filled = c.args.filled.now in
    let known = g.X.Index.places c.args.index.now old.content in
    let ps = placed slots (t.held.last_id + 1) filled in
    let mid = view c.put_each.new.disk in
    let changes = c.in_ok-put_each.ensures.changes t.slots (slots_on_disk old.size None t c.requires.state) in
    let new = view c.seal_taken.new.disk in
    (placed_on t known (λ _. ps) Done old mid new changes c.in_ok-seal_taken.ensures.disk.later (placed_data t known slots ps Done mid new
    (slots_placed slots (t.held.last_id + 1) filled c.requires.many.0)
    (subst (λ (i : ℕ). SealsData t (placed slots i filled) Done mid new) c.next_id-id.ensures.next c.in_ok-seal_taken.ensures.moves) c.in_ok-seal_taken.ensures.frame))
