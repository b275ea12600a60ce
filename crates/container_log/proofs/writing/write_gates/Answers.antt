use Rattle.std.proofs.Common.{◌<◌, length, refl, arith}
use Rattle.std.specs.Prelude.{slice_index_or}
use Rattle.std.proofs.lemmas.Option.{slice_get-get_or}
use Rattle.dd_disk.specs.Ending.{Broken, Done, WriteCall}
use Rattle.dd_disk.specs.Wrote.{SameIn, Wrote}
use Rattle.dd_disk.proofs.Moves.{passed}
use Rattle.dd_disk.proofs.Wrote.{wrote_stopped}
use Rattle.container_log.specs.Many.{NoGate, HaveGates}
use Rattle.container_log.proofs.Gates.{wrote_gate}
use Rattle.container_log.proofs.writing.write_gates.Goals as goal

pub loop-index-preserved : goal.loop-index-preserved
loop-index-preserved g c =
    let view = g.D.Disk.view in
    let more : c.loop-index.index < length c.args.slots.now = omega arith in
    record {
      wrote = wrote_gate c.args.gate (view c.args.disk.now).size c.args.slots.now c.requires c.loop-index.index (slice_index_or c.args.slots.now c.loop-index.index 0)
          c.slot_at.result (slice_get-get_or c.args.slots.now c.loop-index.index 0 more) c.slot_at.ensures
          Done (view c.args.disk.now) (view c.loop-index.disk) (view c.write_unsynced.new.disk) refl c.loop-index.invariant.wrote c.in_ok-write_unsynced.ensures;
    }

pub returns-in_err-write_unsynced : goal.returns-in_err-write_unsynced
returns-in_err-write_unsynced g c =
    let view = g.D.Disk.view in
    let more : c.loop-index.index < length c.args.slots.now = omega arith in
    passed (λ e. Wrote (SameIn (NoGate c.args.slots.now)) (HaveGates c.args.gate (length c.args.slots.now) c.args.slots.now) e (view c.args.disk.now)
    (view c.write_unsynced.new.disk))
    (λ _. WriteCall) c.from_residual.result c.in_err-write_unsynced.field-0.0 c.from_residual.ensures.1
    (wrote_stopped _ _ _ _ _ (wrote_gate c.args.gate (view c.args.disk.now).size c.args.slots.now c.requires c.loop-index.index
    (slice_index_or c.args.slots.now c.loop-index.index 0) c.slot_at.result
    (slice_get-get_or c.args.slots.now c.loop-index.index 0 more) c.slot_at.ensures Broken (view c.args.disk.now) (view c.loop-index.disk) (view c.write_unsynced.new.disk) refl
    c.loop-index.invariant.wrote c.in_err-write_unsynced.ensures))
