use Rattle.std.proofs.Common.{◌≡◌, length, take}
use Rattle.dd_disk.specs.Ending.{Done, Reads}
use Rattle.dd_disk.specs.Shows.{Shows}
use Rattle.store_state.specs.Comparing.{FitSoFar}
use Rattle.store_state.proofs.comparing.compare_all.Given as goal

abbrev pub invariant-loop-i : goal.invariant-loop-i
invariant-loop-i g l =
    let view = g.D.Disk.view in
    let places = g.X.Index.places in
    let old = view l.fn.disk in
    let now = view l.disk in
    Reads Done old now
    × (places l.index now.content ≡ places l.fn.index old.content)
    × g.X.Index.serves l.index now.size
    × (length l.buf ≡ length l.fn.buf)
    × (l.kind ≡ l.filled.kind)
    × FitSoFar old.size (places l.fn.index old.content) (Shows old now) l.filled.kind (take l.i l.filled.segments) l.before.items
