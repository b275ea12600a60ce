use Rattle.ingest_steps.proofs.Prelude.{◌≡◌, length, Done, Shows}
use Rattle.dd_disk.specs.Ending.{Reads}
use Rattle.ingest_steps.specs.Offering.{FitIn}
use Rattle.ingest_steps.proofs.comparing_all.compare_each.Given as goal

abbrev pub invariant-loop-i : goal.invariant-loop-i
invariant-loop-i g l =
    let view = g.D.Disk.view in
    let places = g.X.Index.places in
    let old = view l.fn.disk in
    let now = view l.disk in
    Reads Done old now
    × (places l.index now.content ≡ places l.fn.index old.content)
    × g.X.Index.serves l.index now.size
    × (length l.buf ≡ length l.fn.buf)
    × (length l.befores.items ≡ l.i)
    × FitIn old.size (places l.fn.index old.content) (Shows old now) l.filled l.befores.items
