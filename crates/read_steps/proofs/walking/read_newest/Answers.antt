use Rattle.std.proofs.Common.{List, ℕ, subst, arith}
use Rattle.base_model.proofs.Outcome.{passed_on}
use Rattle.read_steps.specs.Walking.{IsPlaceOf, IsCopyRefusal}
use Rattle.read_steps.proofs.Walks.{copy_at, copy_unread}
use Rattle.read_steps.proofs.walking.read_newest.Goals as goal

pub returns-clause-copy : goal.returns-clause-copy
returns-clause-copy g c =
    let view = g.D.Disk.view in
    let known = g.X.Index.places c.args.index.now (view c.args.disk.now).content in
    let place = c.in_ok-place.place in
    copy_at known (view c.args.disk.now) (view c.find_place.new.disk) (view c.read_copy.new.disk) _ place c.read_copy.new.buf
    (subst (λ (key : List ℕ). IsPlaceOf known key place) c.key_of.ensures c.in_ok-place.ensures.found) c.in_ok-place.ensures.place
    (omega (arith, c.requires.room, c.read_copy.ensures.size))
    c.in_ok-place.ensures.reads.only c.in_ok-read_copy.ensures.shown

pub returns-in_err-read_copy-clause-refused : goal.returns-in_err-read_copy-clause-refused
returns-in_err-read_copy-clause-refused g c =
    let view = g.D.Disk.view in
    let known = g.X.Index.places c.args.index.now (view c.args.disk.now).content in
    let place = c.in_ok-place.place in
    let refusal = c.in_err-read_copy.field-0.0 in
    passed_on c.from_residual-in_err-read_copy.result
    (IsCopyRefusal known (g.X.Index.breaks c.args.index.now) (view c.args.disk.now) (view c.read_copy.new.disk) _ c.args.digest.now) refusal
    c.from_residual-in_err-read_copy.ensures.1
    (copy_unread known (g.X.Index.breaks c.args.index.now) (view c.args.disk.now) (view c.find_place.new.disk) (view c.read_copy.new.disk) _ place c.args.digest.now
    (subst (λ (key : List ℕ). IsPlaceOf known key place) c.key_of.ensures c.in_ok-place.ensures.found)
    c.in_ok-place.ensures.reads.only refusal c.in_err-read_copy.ensures.refused)
