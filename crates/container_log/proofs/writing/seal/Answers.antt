use Rattle.std.proofs.Common.{◌≡◌, length, arith}
use Rattle.dd_disk.specs.Ending.{Done, ending_of}
use Rattle.dd_disk.specs.Writes.{Writes}
use Rattle.dd_disk.proofs.Moves.{passed}
use Rattle.container_log.specs.Faults.{blames}
use Rattle.container_log.specs.Writing.{Seals, IsSealed}
use Rattle.container_log.proofs.One.{one_digest, one_spelled, sealed_whole, writes_sealed}
use Rattle.container_log.proofs.writing.seal.Goals as goal

pub returns-in_err-seal_all-clause-writes : goal.returns-in_err-seal_all-clause-writes
returns-in_err-seal_all-clause-writes g c =
    let old = g.D.Disk.view c.args.disk.now in
    let new = g.D.Disk.view c.seal_all.new.disk in
    let filled = c.args.filled.now in
    let e = c.in_err-seal_all.field-0.0 in
    passed (λ x. Writes (Seals c.args.slot c.args.id filled.kind filled.segments) (IsSealed c.args.slot c.args.id filled.kind filled.segments) x old new) blames
    c.from_residual.result e c.from_residual.ensures.1
    (writes_sealed c.args.slot c.args.id filled c.from_ref.result.now c.from_ref.ensures.value (ending_of (blames e)) old new c.in_err-seal_all.ensures.writes)

pub returns-clause-digest : goal.returns-clause-digest
returns-clause-digest g c =
    let many : length c.seal_all.new.digests ≡ 1 = omega arith in
    one_digest c.args.slot c.args.id c.args.filled.now c.from_ref.result.now c.from_ref.ensures.value c.seal_all.new.digests _ many c.in_ok-seal_all.ensures.spelled.digests_are

pub returns-clause-whole : goal.returns-clause-whole
returns-clause-whole g c =
    sealed_whole c.args.slot c.args.id c.args.filled.now c.from_ref.result.now c.from_ref.ensures.value c.seal_all.new.image (g.D.Disk.view c.args.disk.now)
    (g.D.Disk.view c.seal_all.new.disk)
    (one_spelled c.args.slot c.args.id c.args.filled.now c.from_ref.result.now c.from_ref.ensures.value c.seal_all.new.image c.in_ok-seal_all.ensures.spelled.one) c.requires.place
    c.in_ok-seal_all.ensures.writes

pub returns-clause-writes : goal.returns-clause-writes
returns-clause-writes g c =
    writes_sealed c.args.slot c.args.id c.args.filled.now c.from_ref.result.now c.from_ref.ensures.value Done (g.D.Disk.view c.args.disk.now) (g.D.Disk.view c.seal_all.new.disk)
    c.in_ok-seal_all.ensures.writes
