use Rattle.ingest_steps.proofs.Prelude.{◌+◌, ◌∙◌, length, refl, ap, subst, sym, arith, Done, Shows, passed_on}
use Rattle.std.proofs.lemmas.Option.{slice_get_read}
use Rattle.dd_disk.proofs.Ended.{reads_on}
use Rattle.store_state.specs.Comparing.{IsAllRefusal}
use Rattle.ingest_steps.specs.Offering.{FitIn, IsFirstUnlikeIn}
use Rattle.ingest_steps.proofs.PinList.{length-push}
use Rattle.ingest_steps.proofs.ComparedAll.{fit_more, of_next}
use Rattle.ingest_steps.proofs.comparing_all.compare_each.Goals as goal

pub returns-in_err-before-clause-refused : goal.returns-in_err-before-clause-refused
returns-in_err-before-clause-refused g c =
    let view = g.D.Disk.view in
    let old = view c.args.disk.now in
    let mid = view c.loop-i.disk in
    let new = view c.compare_all.new.disk in
    let known = g.X.Index.places c.args.index.now old.content in
    let filled = c.args.filled.now in
    let inv = c.loop-i.invariant in
    let e = c.in_err-before.field-0.0 in
    let here = slice_get_read filled _ c.loop-i.i c.index-filled-i.result refl (omega (arith, c.loop-i-test.true)) c.index-filled-i.is in
    passed_on c.from_residual.result (IsAllRefusal known (IsFirstUnlikeIn old.size known (Shows old new) filled)) e c.from_residual.ensures.1
    (of_next old.size mid.size known (g.X.Index.places c.loop-i.index mid.content) old mid new inv.0.only.later.size_is inv.1 inv.0.only
    c.in_err-before.ensures.reads.only.later filled c.loop-i.befores.items inv.5 c.loop-i.i c.index-filled-i.result inv.4 here e c.in_err-before.ensures.refused)

pub loop-i-preserved : goal.loop-i-preserved
loop-i-preserved g c =
    let view = g.D.Disk.view in
    let old = view c.args.disk.now in
    let mid = view c.loop-i.disk in
    let new = view c.compare_all.new.disk in
    let known = g.X.Index.places c.args.index.now old.content in
    let mid_known = g.X.Index.places c.loop-i.index mid.content in
    let filled = c.args.filled.now in
    let inv = c.loop-i.invariant in
    let one = c.in_ok-before.ensures in
    let here = slice_get_read filled _ c.loop-i.i c.index-filled-i.result refl (omega (arith, c.loop-i-test.true)) c.index-filled-i.is in (
      reads_on Done old mid new inv.0 one.reads,
      one.map ∙ inv.1,
      one.served,
      one.size ∙ inv.3,
      ap length c.in_ok-push.ensures.items ∙ length-push c.loop-i.befores.items c.in_ok-before.before ∙ ap (λ n. n + 1) inv.4,
      subst (FitIn old.size known (Shows old new) filled) (sym c.in_ok-push.ensures.items)
          (fit_more old.size known old mid new inv.0.only one.reads.only.later filled c.loop-i.befores.items inv.5 c.loop-i.i c.index-filled-i.result c.in_ok-before.before
          inv.4 here mid.size mid_known inv.0.only.later.size_is inv.1 one.fit),
    )
