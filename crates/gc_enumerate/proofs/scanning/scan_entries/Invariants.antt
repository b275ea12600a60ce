use Rattle.std.proofs.Common.{◌≡◌, take, length}
use Rattle.gc_enumerate.specs.Scanning.{FindsChildren, scan_of}
use Rattle.gc_enumerate.proofs.scanning.scan_entries.Given as goal

-- the children of the entries before this one
abbrev pub invariant-loop-entry : goal.invariant-loop-entry
invariant-loop-entry g l =
    FindsChildren (scan_of (g.C.Copies.places l.fn.copies) l.live l.layer) (g.C.Copies.shows l.fn.copies l.copies) (take l.entry-index l.entries) l.found.items
    × g.C.Copies.later l.fn.copies l.copies
    × (g.C.Copies.failures l.copies ≡ g.C.Copies.failures l.fn.copies)
    × (length l.buf ≡ length l.fn.buf)
    × g.C.Copies.serves l.copies
