use Rattle.gc_steps.proofs.Prelude.{◌≡◌, ◌∙◌, [], None, Option, subst, take_all, PlaceMap, Done, RootKey, AreFound, IsFound, IsStartRefusal, IsUnfound}
use Rattle.std.proofs.Common.{get_or}
use Rattle.base_model.proofs.Outcome.{passed_on}
use Rattle.dd_disk.proofs.Ended.{reads_on}
use Rattle.gc_steps.proofs.RootKeys.{found_more, stuck_at}
use Rattle.gc_steps.proofs.starting.look_up_all.Goals as goal

pub returns-in_err-look_up-clause-refused : goal.returns-in_err-look_up-clause-refused
returns-in_err-look_up-clause-refused g c =
    let alone : Option PlaceMap = g.X.Index.places c.args.index.now None in
    let known : Option PlaceMap = g.X.Index.places c.args.index.now (g.D.Disk.view c.args.disk.now).content in
    let then_known : Option PlaceMap = g.X.Index.places c.loop-root.index (g.D.Disk.view c.loop-root.disk).content in
    let blank : RootKey = record { key = []; level = 0 } in
    let root : RootKey = get_or c.args.roots.now c.loop-root.root-index blank in
    let so_far = c.loop-root.invariant in
    let refusal = c.in_err-look_up.field-0.0 in
    passed_on c.from_residual.result (IsStartRefusal alone known c.args.roots.now) refusal c.from_residual.ensures.1
    (stuck_at alone known c.args.roots.now c.loop-root.root-index blank refusal c.loop-root-test.true so_far.0
    (subst (λ (k : Option PlaceMap). IsUnfound alone k root refusal) so_far.1
    (subst (λ (a : Option PlaceMap). IsUnfound a then_known root refusal) so_far.2 c.in_err-look_up.ensures.refused)))

pub loop-root-preserved : goal.loop-root-preserved
loop-root-preserved g c =
    let known : Option PlaceMap = g.X.Index.places c.args.index.now (g.D.Disk.view c.args.disk.now).content in
    let first : Option PlaceMap = g.X.Index.places c.args.index.now None in
    let mid : Option PlaceMap = g.X.Index.places c.loop-root.index None in
    let last : Option PlaceMap = g.X.Index.places c.look_up.new.index None in
    let blank : RootKey = record { key = []; level = 0 } in
    let so_far = c.loop-root.invariant in
    let i = c.loop-root.root-index in
    let same : last ≡ first = ◌∙◌ {a = last} {b = mid} {c = first} c.in_ok-look_up.ensures.alone so_far.2 in (
      found_more known c.args.roots.now i blank c.loop-root-test.true so_far.0
          (subst (λ (k : Option PlaceMap). IsFound k (get_or c.args.roots.now i blank)) so_far.1 c.in_ok-look_up.ensures.found),
      c.in_ok-look_up.ensures.map ∙ so_far.1,
      same,
      reads_on Done (g.D.Disk.view c.args.disk.now) (g.D.Disk.view c.loop-root.disk) (g.D.Disk.view c.look_up.new.disk) so_far.3 c.in_ok-look_up.ensures.reads,
      c.in_ok-look_up.ensures.served,
    )

pub returns-clause-found : goal.returns-clause-found
returns-clause-found g c =
    let known : Option PlaceMap = g.X.Index.places c.args.index.now (g.D.Disk.view c.args.disk.now).content in
    subst (AreFound known) (take_all c.loop-root.root-index c.args.roots.now c.loop-root-test.false) c.loop-root.invariant.0
