use Rattle.std.proofs.Common.{ℕ, refl, subst, sym}
use Rattle.dd_disk.specs.Ending.{WriteCall}
use Rattle.dd_disk.specs.Writes.{Writes}
use Rattle.dd_disk.proofs.Moves.{passed}
use Rattle.dd_disk.proofs.Writes.{never_refused}
use Rattle.container_log.specs.Many.{AreSlots, SealsAll, AreSealed}
use Rattle.container_log.proofs.FreedInTurn.{apart_of}
use Rattle.container_log.proofs.Sealing.{bodies_broken, writes_together}
use Rattle.container_log.proofs.writing.write_containers.Goals as goal

pub returns-in_err-sync_bodies-clause-writes : goal.returns-in_err-sync_bodies-clause-writes
returns-in_err-sync_bodies-clause-writes g c =
    let view = g.D.Disk.view in
    passed (λ e. Writes (SealsAll c.args.slots.now c.args.id c.args.filled.now) (AreSealed c.args.slots.now c.args.id c.args.filled.now) e (view c.args.disk.now)
    (view c.sync_bodies.new.disk))
    (λ _. WriteCall) c.from_residual.result c.in_err-sync_bodies.field-0.0 c.from_residual.ensures.1
    (bodies_broken _ c.args.slots.now c.args.id c.args.filled.now c.requires.places _ _ c.in_err-sync_bodies.ensures.writes)

pub returns-clause-writes : goal.returns-clause-writes
returns-clause-writes g c =
    writes_together _ c.args.slots.now c.args.id c.args.filled.now c.requires.places _ _ _ _ refl (never_refused c.sync_gates.result) c.in_ok-sync_bodies.ensures.writes
    c.sync_gates.ensures

pub sync_gates-requires : goal.sync_gates-requires
sync_gates-requires g c =
    apart_of _ c.args.slots.now (subst (λ (n : ℕ). AreSlots n c.args.slots.now) (sym c.in_ok-sync_bodies.ensures.writes.later.size_is) c.requires.places)
