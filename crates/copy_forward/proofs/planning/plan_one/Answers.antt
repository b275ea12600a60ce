use Rattle.std.proofs.Common.{◌≡◌, true, IsTrue, refl, rules}
use Rattle.base_model.proofs.Outcome.{map_err}
use Rattle.dd_disk.specs.Shows.{Shows}
use Rattle.dd_disk.proofs.Shows.{since}
use Rattle.copy_forward.specs.Planning.{IsLiveRefusal, IsOneRefusal, planned, source_of}
use Rattle.copy_forward.proofs.Planned.{live_in, live_refused, takes_live}
use Rattle.copy_forward.proofs.planning.plan_one.Goals as goal

pub returns-clause-taken : goal.returns-clause-taken
returns-clause-taken g c = λ done.
    let view = g.D.Disk.view in
    let old = view c.args.disk.now in
    let mid = view c.is_copy.new.disk in
    let new = view c.add_live.new.disk in
    let s = source_of (g.X.Index.places c.args.index.now old.content) c.args.live.now c.args.slot c.args.kind in
    let e = c.args.entry.now in
    let flag : c.in_ok-is_copy.field-0 ≡ true = search rules in
    let marked : IsTrue c.is_live.result = search rules in
    let live = live_in s e c.in_ok-is_copy.field-0 c.key_of-key.result c.place_in.result c.in_ok-is_copy.ensures.copy flag c.key_of-key.ensures c.place_in.ensures
    (c.is_live.ensures.0 marked) in
    takes_live (Shows mid new) (Shows old new) (λ P. since old mid new c.in_ok-is_copy.ensures.reads.only) s e (planned c.args.buffer.now c.args.dead.now.items)
    (planned c.add_live.new.buffer c.args.dead.now.items) live
    (c.add_live.ensures.taken done) refl

pub returns-clause-refused : goal.returns-clause-refused
returns-clause-refused g c =
    let view = g.D.Disk.view in
    let old = view c.args.disk.now in
    let mid = view c.is_copy.new.disk in
    let new = view c.add_live.new.disk in
    let s = source_of (g.X.Index.places c.args.index.now old.content) c.args.live.now c.args.slot c.args.kind in
    let e = c.args.entry.now in
    let flag : c.in_ok-is_copy.field-0 ≡ true = search rules in
    let marked : IsTrue c.is_live.result = search rules in
    let live = live_in s e c.in_ok-is_copy.field-0 c.key_of-key.result c.place_in.result c.in_ok-is_copy.ensures.copy flag c.key_of-key.ensures c.place_in.ensures
    (c.is_live.ensures.0 marked) in
    map_err c.add_live.result (IsLiveRefusal c.args.kind c.args.slot (Shows mid new) e c.args.buffer.now) (IsOneRefusal s (Shows old new) e c.args.buffer.now)
    (live_refused (Shows mid new) (Shows old new) (λ P. since old mid new c.in_ok-is_copy.ensures.reads.only) s e c.args.buffer.now live) c.add_live.ensures.refused
