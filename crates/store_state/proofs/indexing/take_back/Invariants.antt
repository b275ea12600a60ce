use Rattle.std.proofs.Common.{◌≡◌, ◌≤◌, ℕ}
use Rattle.dd_disk.specs.Ending.{Done}
use Rattle.disk_format.specs.Layout.{size_of, slot_at}
use Rattle.segment_index.specs.Changes.{Changes}
use Rattle.store_state.proofs.PutBack.{AreBack}
use Rattle.store_state.proofs.indexing.take_back.Given as goal

-- the last entries are back, and so many are left
abbrev pub invariant-loop-left : goal.invariant-loop-left
invariant-loop-left g l =
    let view = g.D.Disk.view in
    let places = g.X.Index.places in
    let old = view l.fn.disk in
    let now = view l.disk in
    AreBack l.kind l.entries l.before l.count l.left (places l.fn.index old.content) (places l.index now.content)
    × (l.left ≤ l.count)
    × (now.size ≡ old.size)
    × ((slots : ℕ) → old.size ≡ size_of slots → Changes (slot_at slots) Done old now)
    × g.X.Index.serves l.index now.size

abbrev pub decreases-loop-left : goal.decreases-loop-left
decreases-loop-left g l = l.left
