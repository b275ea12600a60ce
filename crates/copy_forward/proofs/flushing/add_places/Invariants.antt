use Rattle.std.proofs.Common.{◌≡◌, ◌+◌, ◌++◌, length, take}
use Rattle.std.specs.Prelude.{IfSome}
use Rattle.std.specs.List.{AllByRecursion}
use Rattle.dd_disk.specs.Ending.{Done, Reads}
use Rattle.segment_index.specs.Places.{IsPlace, KnownMap}
use Rattle.copy_forward.specs.Flushing.{places_in}
use Rattle.copy_forward.proofs.flushing.add_places.Given as goal

-- the places of the entries before this one
abbrev pub invariant-loop-entry : goal.invariant-loop-entry
invariant-loop-entry g l =
    let view = g.D.Disk.view in
    let places = g.X.Index.places in
    let old = view l.fn.disk in
    let now = view l.disk in
    (length l.places.items ≡ length l.fn.places.items + l.entry-index)
    × AllByRecursion (λ had. IfSome had (IsPlace old.size)) l.places.items
    × KnownMap (places l.fn.index old.content) (λ m. l.places.items ≡ l.fn.places.items ++ places_in m l.kind (take l.entry-index l.entries))
    × (places l.index now.content ≡ places l.fn.index old.content)
    × Reads Done old now
    × g.X.Index.serves l.index now.size
