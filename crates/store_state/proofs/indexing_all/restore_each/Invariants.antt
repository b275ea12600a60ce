use Rattle.std.proofs.Common.{◌≡◌, ℕ}
use Rattle.dd_disk.specs.Ending.{Done}
use Rattle.disk_format.specs.Layout.{size_of, slot_at}
use Rattle.segment_index.specs.Changes.{Changes}
use Rattle.store_state.proofs.PutAll.{AreGivenIn}
use Rattle.store_state.proofs.indexing_all.restore_each.Given as goal

abbrev pub invariant-loop-i : goal.invariant-loop-i
invariant-loop-i g l =
    let view = g.D.Disk.view in
    let places = g.X.Index.places in
    let old = view l.fn.disk in
    let now = view l.disk in
    AreGivenIn l.filled l.befores l.i (places l.fn.index old.content) (places l.index now.content)
    × (now.size ≡ old.size)
    × ((slots : ℕ) → old.size ≡ size_of slots → Changes (slot_at slots) Done old now)
    × g.X.Index.serves l.index now.size
