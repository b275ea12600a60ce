use Rattle.std.proofs.Common.{◌≡◌, ℕ, Some, take}
use Rattle.dd_disk.specs.Ending.{Done}
use Rattle.disk_format.specs.Layout.{size_of, slot_at}
use Rattle.segment_index.specs.Changes.{Changes}
use Rattle.segment_index.specs.Places.{KnownMap}
use Rattle.store_state.specs.Indexing.{Stays}
use Rattle.copy_forward.specs.Entries.{without_keys}
use Rattle.copy_forward.proofs.entries.remove_keys.Given as goal

-- the keys before this one are out
abbrev pub invariant-loop-key : goal.invariant-loop-key
invariant-loop-key g l =
    let view = g.D.Disk.view in
    let places = g.X.Index.places in
    let old = view l.fn.disk in
    let now = view l.disk in
    let had = places l.fn.index old.content in
    let has = places l.index now.content in
    KnownMap had (λ m. has ≡ Some (without_keys (take l.key-index l.keys) m))
    × Stays had has
    × ((slots : ℕ) → old.size ≡ size_of slots → Changes (slot_at slots) Done old now)
    × g.X.Index.serves l.index now.size
