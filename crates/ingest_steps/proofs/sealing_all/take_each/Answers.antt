use Rattle.ingest_steps.proofs.Prelude.{◌≡◌, ◌+◌, ◌<◌, ◌∙◌, ℕ, List, Some, length, take, get_or, refl, ap, sym, subst, arith, Contents, header_of, entries_within, Store, Tables}
use Rattle.std.proofs.Common.{take_all}
use Rattle.std.proofs.lemmas.Option.{slice_get-get_or, slice_get_read}
use Rattle.container_log.specs.Many.{placed}
use Rattle.store_model.specs.Together.{with_all}
use Rattle.store_state.specs.Tables.{RepresentsSlots}
use Rattle.store_state.proofs.Indexed.{length-entries_from}
use Rattle.ingest_steps.proofs.PlacedFree.{slot_below}
use Rattle.ingest_steps.proofs.SealedAll.{id_below}
use Rattle.ingest_steps.proofs.SealedTables.{same_count}
use Rattle.ingest_steps.proofs.TakenAll.{have_sealed, length-with_all, one_more, table_many}
use Rattle.ingest_steps.proofs.sealing_all.take_each.Goals as goal

same_contents : (a b : Contents) → Some a ≡ Some b → a ≡ b
same_contents a b e = cc

pub overflow_cast-count : goal.overflow_cast-count
overflow_cast-count c =
    let i : ℕ = c.loop-i.i in
    let x = c.index-filled-i-in-loop-i.result in
    let here = slice_get_read c.args.filled.now _ i x refl (omega (arith, c.loop-i-test.true, c.requires.many.0)) c.index-filled-i-in-loop-i.is in
    omega (arith, entries_within (header_of (c.args.id + i) x.kind x.segments) (c.requires.right i x here), length-entries_from 0 x.segments, c.len.ensures)

pub overflow_add-id : goal.overflow_add-id
overflow_add-id c =
    omega (
      arith,
      id_below c.requires.state.0 c.requires.state.1 c.args.tables.now c.requires.state.2 c.requires.slots.0 c.args.slots.now c.requires.slots.1 c.args.id c.requires.id c.loop-i.i
          (omega (arith, c.loop-i-test.true)),
    )

pub take_container-requires-clause-slot : goal.take_container-requires-clause-slot
take_container-requires-clause-slot c =
    let i : ℕ = c.loop-i.i in
    let runs = c.requires.state.2 in
    let store = runs.store in
    let within : i < length c.args.slots.now = omega (arith, c.loop-i-test.true) in
    let at = (c.requires.slots.1 c.requires.state.0 c.requires.state.1).store_has store runs.represents runs.valid runs.has_free in
    let ps = placed (take i c.args.slots.now) c.args.id c.args.filled.now in
    let many = table_many (with_all ps store).held c.loop-i.tables.held (c.loop-i.invariant.2 store runs.represents.slots_hold) in
    omega (arith, many.0, length-with_all ps store, slot_below c.args.slots.now store at.first i (get_or c.args.slots.now i 0) (slice_get-get_or c.args.slots.now i 0 within))

pub take_container-requires-clause-counts : goal.take_container-requires-clause-counts
take_container-requires-clause-counts c =
    let runs = c.requires.state.2 in
    let ps = placed (take c.loop-i.i c.args.slots.now) c.args.id c.args.filled.now in
    (table_many (with_all ps runs.store).held c.loop-i.tables.held (c.loop-i.invariant.2 runs.store runs.represents.slots_hold)).1

pub loop-i-preserved : goal.loop-i-preserved
loop-i-preserved c =
    let i : ℕ = c.loop-i.i in
    let filled = c.args.filled.now in
    let slots = c.args.slots.now in
    let inv = c.loop-i.invariant in
    let x = c.index-filled-i.result in
    let y = c.index-filled-i-in-loop-i.result in
    let within : i < length slots = omega (arith, c.loop-i-test.true) in
    let here = slice_get_read filled _ i x refl (omega (arith, within, c.requires.many.0)) c.index-filled-i.is in
    let also = slice_get_read filled _ i y refl (omega (arith, within, c.requires.many.0)) c.index-filled-i-in-loop-i.is in
    let same : y ≡ x = same_contents y x (sym also ∙ here) in
    let slot : ℕ = get_or slots i 0 in
    let h = header_of (c.args.id + i) x.kind x.segments in (
      ap (λ (t : Tables). (let u : Tables = record t { held = c.take_container.new.self } in u)) inv.0,
      omega (arith, c.take_container.ensures.last, inv.1, c.requires.id),
      λ store is. subst (λ (s : Store). RepresentsSlots s.held c.take_container.new.self)
          (sym (one_more slots c.args.id filled store i (i + 1) slot x (slice_get-get_or slots i 0 within) here (omega arith)))
          (c.take_container.ensures.holds (with_all (placed (take i slots) c.args.id filled) store).held h refl
          (same_count h c.kind.result c.len.result (get_or c.args.sizes.now i 0) _ (sym c.kind.ensures)
          (length-entries_from 0 x.segments ∙ ap (λ (z : Contents). length z.segments) (sym same) ∙ sym c.len.ensures) (sym (c.requires.sizes i x here))
          (sym (c.requires.digests i x within here))) (inv.2 store is)),
    )

pub returns : goal.returns
returns c = λ size known.
    let slots = c.args.slots.now in
    let filled = c.args.filled.now in
    let whole : take c.loop-i.i slots ≡ slots = take_all c.loop-i.i slots (omega (arith, c.loop-i-test.false)) in
    have_sealed c.args.tables.now c.loop-i.tables c.requires.slots.0 slots c.args.id filled c.requires.slots.1 c.requires.id c.requires.many.0 c.requires.right
    (omega (arith, c.loop-i.invariant.1, c.loop-i-test.false, c.loop-i.auto.i-end, c.requires.many.0)) c.loop-i.invariant.0
    (λ store is. subst (λ (l : List ℕ). RepresentsSlots (with_all (placed l c.args.id filled) store).held c.loop-i.tables.held) whole (c.loop-i.invariant.2 store is))
    size known
