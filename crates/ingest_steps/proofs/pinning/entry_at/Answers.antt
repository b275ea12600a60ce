use Rattle.ingest_steps.proofs.Prelude.{◌≤◌, List, [], length, get_or, refl, ap, ◌∙◌, arith, Entry, header_of, entries_within}
use Rattle.container_meta.proofs.Cut.{cut}
use Rattle.ingest_steps.proofs.PinList.{length_at}
use Rattle.ingest_steps.proofs.pinning.entry_at.Goals as goal
use Rattle.store_state.proofs.Indexed.{length-entries_from}

pub offset_bounds-entries-i : goal.offset_bounds-entries-i
offset_bounds-entries-i c =
    let filled = c.args.filled.now in
    let some : 1 ≤ length filled.segments = omega (arith, c.requires) in
    let few = entries_within (header_of 1 filled.kind filled.segments) (c.entries-entries.ensures.header 1 refl some) in
    omega (arith, few, length-entries_from 0 filled.segments, c.requires)

pub bounds-entries-i : goal.bounds-entries-i
bounds-entries-i c = omega (arith, ap length c.entries-entries.ensures.entries, length-entries_from 0 c.args.filled.now.segments, c.requires)

pub returns-clause-digest : goal.returns-clause-digest
returns-clause-digest c =
    let d : Entry = record { digest = []; offset = 0; length = 0; level = 0 } in
    ap (λ (l : List Entry). (get_or l c.args.i d).digest) c.entries-entries.ensures.entries ∙ (cut d 0 c.args.filled.now.segments c.args.i c.requires).digest_is

pub returns-clause-level : goal.returns-clause-level
returns-clause-level c =
    let d : Entry = record { digest = []; offset = 0; length = 0; level = 0 } in
    ap (λ (l : List Entry). (get_or l c.args.i d).level) c.entries-entries.ensures.entries ∙ (cut d 0 c.args.filled.now.segments c.args.i c.requires).level_is

pub returns-clause-length : goal.returns-clause-length
returns-clause-length c =
    let filled = c.args.filled.now in
    let some : 1 ≤ length filled.segments = omega (arith, c.requires) in
    length_at filled.kind [] 0 filled.segments c.args.i c.requires (c.entries-entries.ensures.header 1 refl some).entries
