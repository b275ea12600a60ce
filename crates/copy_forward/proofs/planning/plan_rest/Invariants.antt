use Rattle.std.proofs.Common.{◌≡◌, length, take}
use Rattle.dd_disk.specs.Ending.{Done, Reads}
use Rattle.dd_disk.specs.Shows.{Shows}
use Rattle.copy_forward.specs.Planning.{planned, source_of}
use Rattle.copy_forward.proofs.Planned.{TakesAll}
use Rattle.copy_forward.proofs.planning.plan_rest.Given as goal

-- the entries before this one were planned
abbrev pub invariant-loop-entry : goal.invariant-loop-entry
invariant-loop-entry g l =
    let view = g.D.Disk.view in
    let places = g.X.Index.places in
    let old = view l.fn.disk in
    let now = view l.disk in
    let s = source_of (places l.fn.index old.content) l.live l.slot l.kind in
    TakesAll s (Shows old now) (take l.entry-index l.entries) (planned l.fn.buffer l.fn.dead.items) (planned l.buffer l.dead.items)
    × (l.count ≡ l.entry-index)
    × (l.buffer.kind ≡ l.kind)
    × (places l.index now.content ≡ places l.fn.index old.content)
    × (length l.buf ≡ length l.fn.buf)
    × Reads Done old now
    × g.X.Index.serves l.index now.size
