use Rattle.std.proofs.Common.{◌≡◌, Option, Some, None, ap, sym, subst, ◌∙◌}
use Rattle.std.specs.Prelude.{IfSome}
use Rattle.std.specs.FinMap as finite
use Rattle.base_model.proofs.Outcome.{passed_on}
use Rattle.container_meta.specs.declared.place.Place.{Place}
use Rattle.dd_disk.specs.Shows.{Shows}
use Rattle.dd_disk.proofs.Shows.{always, since}
use Rattle.segment_index.specs.Places.{IsPlace}
use Rattle.store_state.specs.Comparing.{IsUnlike, IsOneRefusal, FitsHad}
use Rattle.store_state.proofs.Compared.{same_since, of_one}
use Rattle.store_state.proofs.comparing.compare_one.Goals as goal

pub returns-in_err-read_same-in-Some-clause-refused : goal.returns-in_err-read_same-in-Some-clause-refused
returns-in_err-read_same-in-Some-clause-refused g c =
    let view = g.D.Disk.view in
    let old = view c.args.disk.now in
    let mid = view c.find.new.disk in
    let new = view c.read_same.new.disk in
    let known = g.X.Index.places c.args.index.now old.content in
    let e = c.in_err-read_same-in-Some.field-0.0 in
    let found = c.in_ok-place.ensures in
    passed_on c.from_residual-in_err-read_same-in-Some.result
    (IsOneRefusal (λ at why. (known ≡ None) × Shows old new (g.X.Index.breaks c.args.index.now at why))
    (IsUnlike old.size known (Shows old new) c.args.kind c.args.digest.now c.args.offered.now))
    e c.from_residual-in_err-read_same-in-Some.ensures.1
    (of_one _ old.size known (Shows old new) c.args.kind c.args.digest.now c.args.offered.now c.in-Some.place
    (λ m is. ap (finite.get m) (sym c.key_of.ensures) ∙ sym (found.found m is) ∙ c.in-Some.is)
    (subst (λ (o : Option Place). IfSome o (IsPlace old.size)) c.in-Some.is found.place) e
    (same_since old mid new found.reads.only c.args.kind c.args.digest.now c.args.offered.now c.in-Some.place e c.in_err-read_same-in-Some.ensures.refused))

pub returns-in_ok-read_same-in-Some-clause-fit : goal.returns-in_ok-read_same-in-Some-clause-fit
returns-in_ok-read_same-in-Some-clause-fit g c =
    let view = g.D.Disk.view in
    since (view c.args.disk.now) (view c.find.new.disk) (view c.read_same.new.disk) {P = FitsHad c.args.kind c.args.offered.now (Some c.in-Some.place)}
    c.in_ok-place.ensures.reads.only c.in_ok-read_same-in-Some.ensures.same

pub returns-in-None-clause-fit : goal.returns-in-None-clause-fit
returns-in-None-clause-fit g c =
    let view = g.D.Disk.view in
    always (view c.args.disk.now) (view c.find.new.disk) (FitsHad c.args.kind c.args.offered.now None) (λ image sized. tt)
