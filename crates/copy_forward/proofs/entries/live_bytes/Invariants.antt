use Rattle.std.proofs.Common.{◌≡◌, ◌≤◌, take}
use Rattle.container_meta.specs.Spelling.{bytes_of}
use Rattle.dd_disk.specs.Ending.{Done, Reads}
use Rattle.segment_index.specs.Places.{KnownMap}
use Rattle.copy_forward.specs.Entries.{SumsLive}
use Rattle.copy_forward.proofs.entries.live_bytes.Given as goal

-- the sum over the entries before this one
abbrev pub invariant-loop-entry : goal.invariant-loop-entry
invariant-loop-entry g l =
    let view = g.D.Disk.view in
    let places = g.X.Index.places in
    let old = view l.fn.disk in
    let now = view l.disk in
    KnownMap (places l.fn.index old.content) (λ m. SumsLive m l.live l.kind l.slot (take l.entry-index l.entries) l.sum)
    × (l.sum ≤ bytes_of (take l.entry-index l.entries))
    × (places l.index now.content ≡ places l.fn.index old.content)
    × Reads Done old now
    × g.X.Index.serves l.index now.size
