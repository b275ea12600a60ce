use Rattle.ingest_steps.proofs.Prelude.{◌+◌, ◌∙◌, length, refl, ap, sym, subst, arith}
use Rattle.std.proofs.lemmas.Option.{slice_get_read}
use Rattle.ingest_steps.proofs.PinList.{length-push}
use Rattle.ingest_steps.proofs.TakenAll.{AreSized, got_within, sized_more}
use Rattle.ingest_steps.proofs.sealing_all.data_sizes.Goals as goal

pub loop-i-preserved : goal.loop-i-preserved
loop-i-preserved c =
    let filled = c.args.filled.now in
    let inv = c.loop-i.invariant in
    let here = slice_get_read filled _ c.loop-i.i c.index-filled-i.result refl (omega (arith, c.loop-i-test.true)) c.index-filled-i.is in (
      ap length c.in_ok-push.ensures.items ∙ length-push c.loop-i.sizes.items c.data_bytes.result ∙ ap (λ n. n + 1) inv.0,
      subst (AreSized (c.loop-i.i + 1) filled) (sym c.in_ok-push.ensures.items)
          (sized_more filled c.loop-i.sizes.items c.loop-i.i c.data_bytes.result c.index-filled-i.result inv.0 inv.1 here c.data_bytes.ensures.bytes c.data_bytes.ensures.right),
    )

pub returns-clause-sizes : goal.returns-clause-sizes
returns-clause-sizes c = λ i x here. (c.loop-i.invariant.1 i x (omega (arith, c.loop-i-test.false, got_within c.args.filled.now i x here)) here).0

pub returns-clause-right : goal.returns-clause-right
returns-clause-right c = λ id ids i x here.
    let within = got_within c.args.filled.now i x here in
    (c.loop-i.invariant.1 i x (omega (arith, c.loop-i-test.false, within)) here).1 (id + i) (ids i within)
