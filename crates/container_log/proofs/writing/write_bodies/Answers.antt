use Rattle.std.proofs.Common.{◌≡◌, ◌+◌, ◌<◌, length, refl, arith, subst}
use Rattle.std.specs.Prelude.{slice_index_or}
use Rattle.std.proofs.lemmas.Option.{slice_get-get_or, slice_get_read}
use Rattle.disk_format.specs.Layout.{slot_at}
use Rattle.dd_disk.specs.Ending.{Broken, Done, WriteCall}
use Rattle.dd_disk.specs.Wrote.{SameIn, Wrote}
use Rattle.dd_disk.proofs.Moves.{passed}
use Rattle.dd_disk.proofs.Wrote.{wrote_stopped}
use Rattle.container_log.specs.Many.{AreDigests, NoBody, HaveBodies}
use Rattle.container_log.proofs.Bodies.{digests_on, not_ok, wrote_body}
use Rattle.container_log.proofs.writing.write_bodies.Goals as goal

pub loop-index-preserved : goal.loop-index-preserved
loop-index-preserved g c =
    let view = g.D.Disk.view in
    let more : c.loop-index.index < length c.args.slots.now = omega arith in
    let slot = slice_index_or c.args.slots.now c.loop-index.index 0 in
    let here = slice_get_read c.args.filled.now _ c.loop-index.index c.index-filled-index.result refl (omega (arith, more, c.requires.each)) c.index-filled-index.is in
    record {
      image = c.write_body.ensures.slot.size;
      spells = λ some any. (c.loop-index.index, c.index-filled-index.result, here, c.write_body.ensures.image);
      digests = digests_on c.loop-index.index c.args.id c.args.filled.now c.loop-index.digests c.in_ok-digests.field-0 c.index-filled-index.result (omega arith) here
          c.in_ok-digests.ensures.digest c.loop-index.invariant.digests;
      wrote = wrote_body (view c.args.disk.now).size c.args.slots.now c.args.id c.args.filled.now c.requires.places c.loop-index.index slot (slot_at slot + 1)
          c.index-filled-index.result c.write_body.new.image (slice_get-get_or c.args.slots.now c.loop-index.index 0 more) here refl c.write_body.ensures.image
          c.write_body.ensures.slot Done (view c.args.disk.now) (view c.loop-index.disk) (view c.write_body.new.disk) refl c.loop-index.invariant.wrote
          c.in_ok-digests.ensures.wrote;
    }

pub write_body-requires : goal.write_body-requires
write_body-requires g c =
    let more : c.loop-index.index < length c.args.slots.now = omega arith in
    let here = slice_get_read c.args.filled.now _ c.loop-index.index c.index-filled-index.result refl (omega (arith, more, c.requires.each)) c.index-filled-index.is in
    let fits = c.requires.places.within c.loop-index.index _ (slice_get-get_or c.args.slots.now c.loop-index.index 0 more) in
    record {
      place = omega (arith, fits, c.loop-index.invariant.wrote.later.size_is);
      there = c.requires.there c.loop-index.index c.index-filled-index.result here;
      id = c.requires.ids c.loop-index.index more;
      image = c.loop-index.invariant.image;
    }

pub returns-in_err-digests-clause-spelled : goal.returns-in_err-digests-clause-spelled
returns-in_err-digests-clause-spelled g c =
    let more : c.loop-index.index < length c.args.slots.now = omega arith in
    let here = slice_get_read c.args.filled.now _ c.loop-index.index c.index-filled-index.result refl (omega (arith, more, c.requires.each)) c.index-filled-index.is in
    record {
      size = c.write_body.ensures.slot.size;
      one = λ any. (c.loop-index.index, c.index-filled-index.result, here, c.write_body.ensures.image);
      digests_are = not_ok c.from_residual.result _ c.from_residual.ensures.0;
    }

pub returns-clause-spelled : goal.returns-clause-spelled
returns-clause-spelled g c =
    let end : c.loop-index.index ≡ length c.args.slots.now = omega arith in
    record {
      size = c.loop-index.invariant.image;
      one = λ any. c.loop-index.invariant.spells (omega (arith, any, end, c.requires.each)) any;
      digests_are = subst (λ n. AreDigests n c.args.id c.args.filled.now c.loop-index.digests) end c.loop-index.invariant.digests;
    }

pub returns-clause-wrote : goal.returns-clause-wrote
returns-clause-wrote g c =
    let end : c.loop-index.index ≡ length c.args.slots.now = omega arith in
    let view = g.D.Disk.view in
    subst (λ n. Wrote (SameIn (NoBody c.args.slots.now)) (HaveBodies n c.args.slots.now c.args.id c.args.filled.now) Done (view c.args.disk.now) (view c.loop-index.disk)) end
    c.loop-index.invariant.wrote

pub returns-in_err-digests-clause-wrote : goal.returns-in_err-digests-clause-wrote
returns-in_err-digests-clause-wrote g c =
    let view = g.D.Disk.view in
    let more : c.loop-index.index < length c.args.slots.now = omega arith in
    let slot = slice_index_or c.args.slots.now c.loop-index.index 0 in
    let here = slice_get_read c.args.filled.now _ c.loop-index.index c.index-filled-index.result refl (omega (arith, more, c.requires.each)) c.index-filled-index.is in
    passed (λ e. Wrote (SameIn (NoBody c.args.slots.now)) (HaveBodies (length c.args.slots.now) c.args.slots.now c.args.id c.args.filled.now) e (view c.args.disk.now)
    (view c.write_body.new.disk))
    (λ _. WriteCall) c.from_residual.result c.in_err-digests.field-0.0 c.from_residual.ensures.1
    (wrote_stopped _ _ _ _ _ (wrote_body (view c.args.disk.now).size c.args.slots.now c.args.id c.args.filled.now c.requires.places c.loop-index.index slot (slot_at slot + 1)
    c.index-filled-index.result c.write_body.new.image (slice_get-get_or c.args.slots.now c.loop-index.index 0 more) here refl c.write_body.ensures.image
    c.write_body.ensures.slot Broken (view c.args.disk.now) (view c.loop-index.disk) (view c.write_body.new.disk) refl c.loop-index.invariant.wrote
    c.in_err-digests.ensures.wrote))
