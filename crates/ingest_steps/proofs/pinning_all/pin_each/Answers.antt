use Rattle.ingest_steps.proofs.Prelude.{◌≡◌, ◌+◌, ℕ, length, take, refl, ap, sym, subst, ◌∙◌, arith, PinMap, WereHad, with_pins}
use Rattle.std.proofs.lemmas.Option.{slice_get_read}
use Rattle.ingest_steps.specs.Offering.{WereHadIn, with_pins_of}
use Rattle.ingest_steps.proofs.PinList.{length-push}
use Rattle.ingest_steps.proofs.PinnedAll.{had_in_push, pins_of_next}
use Rattle.ingest_steps.proofs.pinning_all.pin_each.Goals as goal

pub unpin_each-requires-clause-kept : goal.unpin_each-requires-clause-kept
unpin_each-requires-clause-kept c =
    let inv = c.loop-i.invariant in
    let many : c.loop-i.i ≡ length c.deref.result.now = sym (ap length c.deref.ensures.value ∙ inv.0) in (
      c.args.pins.now,
      subst (WereHadIn c.args.filled.now c.args.pins.now) (sym c.deref.ensures.value) inv.3,
      c.in-Err.ensures.err ∙ inv.2 ∙ ap (λ (k : ℕ). with_pins_of (take k c.args.filled.now) c.args.pins.now) many,
    )

pub returns-in-Err-clause-err : goal.returns-in-Err-clause-err
returns-in-Err-clause-err c =
    let inv = c.loop-i.invariant in
    let many : c.loop-i.i ≡ length c.deref.result.now = sym (ap length c.deref.ensures.value ∙ inv.0) in
    c.unpin_each.ensures c.args.pins.now (subst (WereHadIn c.args.filled.now c.args.pins.now) (sym c.deref.ensures.value) inv.3)
    (c.in-Err.ensures.err ∙ inv.2 ∙ ap (λ (k : ℕ). with_pins_of (take k c.args.filled.now) c.args.pins.now) many)

pub loop-i-preserved : goal.loop-i-preserved
loop-i-preserved c =
    let filled = c.args.filled.now in
    let inv = c.loop-i.invariant in
    let i : ℕ = c.loop-i.i in
    let pins : PinMap = c.args.pins.now in
    let more = c.index-filled-i.result in
    let here = slice_get_read filled _ i more refl (omega (arith, c.loop-i-test.true)) c.index-filled-i.is in (
      ap length c.push_hads.ensures.items ∙ length-push c.loop-i.hads.items c.in-Ok.had ∙ ap (λ (k : ℕ). k + 1) inv.0,
      omega (arith, inv.1, c.push_hads.ensures.capacity),
      c.in-Ok.ensures.ok ∙ ap (with_pins more.kind more.segments) inv.2 ∙ sym (pins_of_next filled pins i (i + 1) more here (omega arith)),
      subst (WereHadIn filled pins) (sym c.push_hads.ensures.items)
          (had_in_push filled pins c.loop-i.hads.items c.in-Ok.had i more inv.0 inv.3 here (record {
            many = c.in-Ok.ensures.many;
            were = subst (λ (m : PinMap). WereHad more.kind more.segments m c.in-Ok.had.items) inv.2 c.in-Ok.ensures.had;
            right = c.in-Ok.ensures.right;
          })),
    )
