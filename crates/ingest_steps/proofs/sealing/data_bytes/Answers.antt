use Rattle.ingest_steps.proofs.Prelude.{[], length, refl, ap, arith, Entry, header_of}
use Rattle.ingest_steps.proofs.SealedTables.{last_of, few_bytes}
use Rattle.ingest_steps.proofs.sealing.data_bytes.Goals as goal
use Rattle.store_state.proofs.Indexed.{length-entries_from}

pub overflow_sub-last : goal.overflow_sub-last
overflow_sub-last c = omega (arith, ap length c.entries-entries.ensures.entries, length-entries_from 0 c.args.filled.now.segments, c.requires)

pub bounds-entries-entries : goal.bounds-entries-entries
bounds-entries-entries c = omega (arith, ap length c.entries-entries.ensures.entries, length-entries_from 0 c.args.filled.now.segments, c.requires)

pub overflow_add-result : goal.overflow_add-result
overflow_add-result c =
    let filled = c.args.filled.now in
    let d : Entry = record { digest = []; offset = 0; length = 0; level = 0 } in
    omega (
      arith,
      last_of d c.entries-entries.result.now filled.segments c.entries-entries.ensures.entries c.requires,
      few_bytes (header_of 1 filled.kind filled.segments)
          (c.entries-entries.ensures.header 1 refl c.requires),
    )

pub returns-clause-bytes : goal.returns-clause-bytes
returns-clause-bytes c =
    last_of (record { digest = []; offset = 0; length = 0; level = 0 }) c.entries-entries.result.now c.args.filled.now.segments c.entries-entries.ensures.entries c.requires
