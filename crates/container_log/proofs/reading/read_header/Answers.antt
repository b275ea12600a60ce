use Rattle.std.proofs.Common.{ℕ, List, ◌++◌, take, drop, sym, subst, arith, ap}
use Rattle.dd_disk.proofs.Shows.{both, weaker}
use Rattle.disk_format.specs.Layout.{slot_at}
use Rattle.container_log.specs.Parts.{ReadAt}
use Rattle.container_meta.specs.Reading.{end_of}
use Rattle.container_log.proofs.FirstBytes.{long, reach, same_count, stand, whole, first_read}
use Rattle.container_log.proofs.reading.read_header.Goals as goal

pub slice_bounds-read_part-end-2 : goal.slice_bounds-read_part-end-2
slice_bounds-read_part-end-2 g c = omega (arith, c.requires.length, long 4096 c.args.raw.now (omega (arith, c.requires.length)))

pub read_part-requires : goal.read_part-requires
read_part-requires g c = omega (arith, c.requires.place, c.slot_at.ensures, long 4096 c.args.raw.now (omega (arith, c.requires.length)))

pub returns-then-end-le-FIRST_READ-clause-reach : goal.returns-then-end-le-FIRST_READ-clause-reach
returns-then-end-le-FIRST_READ-clause-reach g c =
    let first : List ℕ = c.read_part.new.into ++ drop 4096 c.args.raw.now in
    reach 4096 first (omega arith) (omega (arith, whole c.read_part.new.into c.args.raw.now c.requires.length c.in_ok-read_part.ensures.length))
    (omega (arith, c.header_end-end.ensures.end, c.if-end-le-FIRST_READ.true))

pub returns-then-end-le-FIRST_READ-clause-shown : goal.returns-then-end-le-FIRST_READ-clause-shown
returns-then-end-le-FIRST_READ-clause-shown g c =
    let view = g.D.Disk.view in
    first_read (ReadAt (view c.args.disk.now) (view c.read_part.new.disk)) _ _ c.read_part.new.into c.args.raw.now c.requires.length c.in_ok-read_part.ensures.length
    c.slot_at.ensures c.in_ok-read_part.ensures.shown

pub returns-clause-reach : goal.returns-clause-reach
returns-clause-reach g c =
    let first : List ℕ = c.read_part.new.into ++ drop 4096 c.args.raw.now in
    let count = same_count 4096 c.read_more.new.raw first (omega arith) c.in_ok-read_more.ensures.first in
    reach c.header_end-end.result c.read_more.new.raw (omega (arith, c.if-end-le-FIRST_READ.false))
    (omega (arith, c.header_end-end.ensures.before_data, c.in_ok-read_more.ensures.length))
    (omega (arith, ap end_of count, c.header_end-end.ensures.end))

pub returns-clause-shown : goal.returns-clause-shown
returns-clause-shown g c =
    let view = g.D.Disk.view in
    let first : List ℕ = c.read_part.new.into ++ drop 4096 c.args.raw.now in
    let one : ReadAt (view c.args.disk.now) (view c.read_part.new.disk) (slot_at c.args.slot) (take 4096 c.read_more.new.raw) =
    subst (ReadAt (view c.args.disk.now) (view c.read_part.new.disk) (slot_at c.args.slot)) (sym c.in_ok-read_more.ensures.first)
    (first_read (ReadAt (view c.args.disk.now) (view c.read_part.new.disk)) _ _ c.read_part.new.into c.args.raw.now c.requires.length c.in_ok-read_part.ensures.length
    c.slot_at.ensures c.in_ok-read_part.ensures.shown) in
    weaker _ _ (λ image sized parts. stand 4096 c.header_end-end.result (slot_at c.args.slot) c.read_more.new.raw image (omega (arith, c.if-end-le-FIRST_READ.false))
    (omega (arith, c.header_end-end.ensures.before_data, c.in_ok-read_more.ensures.length)) parts.0 parts.1)
    (both _ _ _ one c.in_ok-read_part.ensures.reads.only c.in_ok-read_more.ensures.shown c.in_ok-read_more.ensures.reads.only.later)
