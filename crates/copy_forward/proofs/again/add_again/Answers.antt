use Rattle.std.proofs.Common.{◌<◌, length, refl, ap, arith, rules, ◌∙◌}
use Rattle.container_meta.specs.Format.{is_level}
use Rattle.container_meta.specs.Segments.{segment_at}
use Rattle.store_state.proofs.Indexed.{length-entries_from}
use Rattle.copy_forward.proofs.Refilled.{can_add_it, fits_it, level_fits, level_of, one_more, segment_made}
use Rattle.copy_forward.proofs.again.add_again.Goals as goal

pub offset_bounds-entries-i : goal.offset_bounds-entries-i
offset_bounds-entries-i c =
    let within : c.args.i < length c.entries.result.now = omega (arith, c.requires.number, ap length c.entries.ensures.entries, length-entries_from 0 c.args.from.now.segments) in
    search rules

pub bounds-entries-i : goal.bounds-entries-i
bounds-entries-i c = omega (arith, c.requires.number, ap length c.entries.ensures.entries, length-entries_from 0 c.args.from.now.segments)

pub seg_of-requires : goal.seg_of-requires
seg_of-requires c =
    let v = c.args.from.now in
    let right = c.entries.ensures.header 1 refl (omega (arith, c.requires.number)) in
    ap (is_level c.kind.result) (level_of c.entries.result.now v.segments c.args.i _ c.requires.number c.entries.ensures.entries)
    ∙ ap (λ k. is_level k (segment_at v.segments c.args.i).level) c.kind.ensures
    ∙ level_fits v.kind v.segments c.args.i c.requires.number right

pub try_add-requires : goal.try_add-requires
try_add-requires c =
    let v = c.args.from.now in
    let right = c.entries.ensures.header 1 refl (omega (arith, c.requires.number)) in
    let made = segment_made c.in_ok-seg.seg v.kind c.kind.result _ c.bytes_of.result.now (segment_at v.segments c.args.i) c.in_ok-seg.ensures c.kind.ensures
    (level_of c.entries.result.now v.segments c.args.i _ c.requires.number c.entries.ensures.entries) c.bytes_of.ensures in
    can_add_it v.kind v.segments c.args.i c.requires.number right c.args.copy.now c.in_ok-seg.seg c.requires.before made

pub unreachable-requires : goal.unreachable-requires
unreachable-requires c =
    let v = c.args.from.now in
    let right = c.entries.ensures.header 1 refl (omega (arith, c.requires.number)) in
    let made = segment_made c.in_ok-seg.seg v.kind c.kind.result _ c.bytes_of.result.now (segment_at v.segments c.args.i) c.in_ok-seg.ensures c.kind.ensures
    (level_of c.entries.result.now v.segments c.args.i _ c.requires.number c.entries.ensures.entries) c.bytes_of.ensures in
    let room = fits_it v.kind v.segments c.args.i c.requires.number right c.args.copy.now c.in_ok-seg.seg c.requires.before made in
    search rules

pub returns : goal.returns
returns c =
    let v = c.args.from.now in
    let right = c.entries.ensures.header 1 refl (omega (arith, c.requires.number)) in
    let made = segment_made c.in_ok-seg.seg v.kind c.kind.result _ c.bytes_of.result.now (segment_at v.segments c.args.i) c.in_ok-seg.ensures c.kind.ensures
    (level_of c.entries.result.now v.segments c.args.i _ c.requires.number c.entries.ensures.entries) c.bytes_of.ensures in
    one_more v.kind v.segments c.args.i c.requires.number right c.args.copy.now c.in_ok-seg.seg c.requires.before made c.try_add.new.self (c.try_add.ensures.added c.in-Added.is)
