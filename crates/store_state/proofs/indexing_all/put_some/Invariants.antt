use Rattle.std.proofs.Common.{◌≡◌, ℕ, Some, take}
use Rattle.dd_disk.specs.Ending.{Done}
use Rattle.disk_format.specs.Layout.{size_of, slot_at}
use Rattle.segment_index.specs.Changes.{Changes}
use Rattle.segment_index.specs.Places.{KnownMap}
use Rattle.store_model.specs.Indexing.{with_entries}
use Rattle.store_state.specs.Indexing.{Stays}
use Rattle.store_state.proofs.indexing_all.put_some.Given as goal

-- the entries before this one were put
abbrev pub invariant-loop-at : goal.invariant-loop-at
invariant-loop-at g l =
    let view = g.D.Disk.view in
    let places = g.X.Index.places in
    let old = view l.fn.disk in
    let now = view l.disk in
    let had = places l.fn.index old.content in
    let has = places l.index now.content in
    KnownMap had (λ m. has ≡ Some (with_entries l.kind l.slot (take l.at l.entries) m))
    × Stays had has
    × ((slots : ℕ) → old.size ≡ size_of slots → Changes (slot_at slots) Done old now)
    × g.X.Index.serves l.index now.size
