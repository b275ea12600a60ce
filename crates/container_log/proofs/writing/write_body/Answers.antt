use Rattle.std.proofs.Common.{◌≡◌, drop, length, ◌+◌, ap, arith, length-drop}
use Rattle.std.proofs.lemmas.List.{take_rest}
use Rattle.disk_format.specs.declared.numbers.TheConstants.{SLOT_BYTES}
use Rattle.disk_format.specs.Layout.{slot_at}
use Rattle.dd_disk.specs.Ending.{Broken, Done, WriteCall}
use Rattle.dd_disk.specs.Writes.{Puts, Torn}
use Rattle.dd_disk.specs.Wrote.{Wrote}
use Rattle.dd_disk.proofs.Moves.{passed}
use Rattle.container_log.proofs.Bodies.{not_ok, wrote_rest}
use Rattle.container_log.proofs.writing.write_body.Goals as goal

pub write_unsynced-requires : goal.write_unsynced-requires
write_unsynced-requires g c =
    let image = c.encode-header_digest.new.image in
    let long : length image ≡ SLOT_BYTES = omega arith in
    omega (arith, long, c.requires.place, c.slot_at.ensures, ap length (take_rest image 1), length-drop 1 image)

pub returns-clause-image : goal.returns-clause-image
returns-clause-image g c = c.encode-header_digest.ensures.image

pub returns-clause-slot : goal.returns-clause-slot
returns-clause-slot g c = record { size = omega arith; header = c.encode-header_digest.ensures.header; stored = c.encode-header_digest.ensures.stored }

pub returns-clause-digest : goal.returns-clause-digest
returns-clause-digest g c = c.encode-header_digest.ensures.digest

pub returns-clause-wrote : goal.returns-clause-wrote
returns-clause-wrote g c =
    wrote_rest c.slot_at.result (slot_at c.args.slot) c.encode-header_digest.new.image Done (g.D.Disk.view c.args.disk.now) (g.D.Disk.view c.write_unsynced.new.disk)
    c.slot_at.ensures c.in_ok-write_unsynced.ensures

pub returns-in_err-write_unsynced-clause-image : goal.returns-in_err-write_unsynced-clause-image
returns-in_err-write_unsynced-clause-image g c = c.encode-header_digest.ensures.image

pub returns-in_err-write_unsynced-clause-slot : goal.returns-in_err-write_unsynced-clause-slot
returns-in_err-write_unsynced-clause-slot g c =
    record { size = omega arith; header = c.encode-header_digest.ensures.header; stored = c.encode-header_digest.ensures.stored }

pub returns-in_err-write_unsynced-clause-digest : goal.returns-in_err-write_unsynced-clause-digest
returns-in_err-write_unsynced-clause-digest g c = not_ok c.from_residual.result _ c.from_residual.ensures.0

pub returns-in_err-write_unsynced-clause-wrote : goal.returns-in_err-write_unsynced-clause-wrote
returns-in_err-write_unsynced-clause-wrote g c =
    let body = drop 1 c.encode-header_digest.new.image in
    passed (λ e. Wrote (Torn (slot_at c.args.slot + 1) (length body)) (Puts (slot_at c.args.slot + 1) body) e (g.D.Disk.view c.args.disk.now)
    (g.D.Disk.view c.write_unsynced.new.disk))
    (λ _. WriteCall) c.from_residual.result c.in_err-write_unsynced.field-0.0 c.from_residual.ensures.1
    (wrote_rest c.slot_at.result (slot_at c.args.slot) c.encode-header_digest.new.image Broken (g.D.Disk.view c.args.disk.now) (g.D.Disk.view c.write_unsynced.new.disk)
    c.slot_at.ensures c.in_err-write_unsynced.ensures)
