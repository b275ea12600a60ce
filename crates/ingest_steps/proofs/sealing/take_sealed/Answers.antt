use Rattle.ingest_steps.proofs.Prelude.{refl, sym, ◌∙◌, arith, header_of, entries_within}
use Rattle.ingest_steps.proofs.SealedTables.{slot_in_table, counts_many, same_count, has_sealed}
use Rattle.ingest_steps.proofs.sealing.take_sealed.Goals as goal
use Rattle.store_state.proofs.Indexed.{length-entries_from}

pub overflow_cast-count : goal.overflow_cast-count
overflow_cast-count c =
    let filled = c.args.filled.now in
    omega (arith, entries_within (header_of c.args.id filled.kind filled.segments) c.requires.right, length-entries_from 0 filled.segments, c.len.ensures)

pub take_container-requires-clause-slot : goal.take_container-requires-clause-slot
take_container-requires-clause-slot c = slot_in_table c.requires.state.0 c.requires.state.1 c.args.tables.now c.args.slot c.requires.slot.1 c.requires.state.2

pub take_container-requires-clause-counts : goal.take_container-requires-clause-counts
take_container-requires-clause-counts c = counts_many c.requires.state.0 c.requires.state.1 c.args.tables.now c.requires.state.2

pub returns : goal.returns
returns c = λ spares size known has.
    let filled = c.args.filled.now in
    has_sealed c.args.tables.now _ c.args.slot c.args.id filled has c.requires.id c.requires.right
    (omega (arith, c.take_container.ensures.last, c.requires.id)) refl refl refl
    (λ held. c.take_container.ensures.holds held (header_of c.args.id filled.kind filled.segments) refl
    (same_count (header_of c.args.id filled.kind filled.segments) c.kind.result c.len.result c.args.bytes c.args.digest (sym c.kind.ensures)
    (length-entries_from 0 filled.segments ∙ sym c.len.ensures) (sym c.requires.bytes) (sym c.requires.digest))) size known
