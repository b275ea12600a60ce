use Rattle.ingest_steps.proofs.Prelude.{◌≡◌, ◌+◌, ◌-◌, ℕ, length, take, refl, ap, ◌∙◌, arith, PinMap}
use Rattle.std.proofs.lemmas.Option.{slice_get_read}
use Rattle.ingest_steps.specs.Offering.{with_pins_of}
use Rattle.ingest_steps.proofs.PinnedAll.{had_right, had_were, had_kept}
use Rattle.ingest_steps.proofs.pinning_all.unpin_each.Goals as goal

pub unpin-requires-clause-right : goal.unpin-requires-clause-right
unpin-requires-clause-right c =
    let n : ℕ = length c.args.hads.now in
    let i : ℕ = n - 1 - c.loop-back.back in
    let here = slice_get_read c.args.filled.now _ i c.index-filled-i.result refl (omega (arith, c.loop-back-test.true, c.requires.few)) c.index-filled-i.is in
    let there = slice_get_read c.args.hads.now _ i c.index-hads-i.result refl (omega (arith, c.loop-back-test.true)) c.index-hads-i.is in
    had_right c.args.filled.now c.requires.kept.0 c.args.hads.now c.requires.kept.1 i (n - c.loop-back.back) c.index-filled-i.result c.index-hads-i.result here there
    c.deref.result.now c.deref.ensures.value

pub unpin-requires-clause-kept : goal.unpin-requires-clause-kept
unpin-requires-clause-kept c =
    let n : ℕ = length c.args.hads.now in
    let i : ℕ = n - 1 - c.loop-back.back in
    let here = slice_get_read c.args.filled.now _ i c.index-filled-i.result refl (omega (arith, c.loop-back-test.true, c.requires.few)) c.index-filled-i.is in
    let there = slice_get_read c.args.hads.now _ i c.index-hads-i.result refl (omega (arith, c.loop-back-test.true)) c.index-hads-i.is in
    let before : PinMap = c.requires.kept.0 in (
      with_pins_of (take i c.args.filled.now) before,
      had_were c.args.filled.now before c.args.hads.now c.requires.kept.1 i (n - c.loop-back.back) c.index-filled-i.result c.index-hads-i.result here there
          c.deref.result.now c.deref.ensures.value,
      had_kept c.args.filled.now before c.args.hads.now c.requires.kept.1 i (n - c.loop-back.back) c.index-filled-i.result c.index-hads-i.result here there
          c.deref.result.now c.deref.ensures.value c.loop-back.pins (c.loop-back.invariant before c.requires.kept.1 c.requires.kept.2)
          (omega (arith, c.loop-back-test.true)),
    )

pub loop-back-preserved : goal.loop-back-preserved
loop-back-preserved c = λ before were is.
    let n : ℕ = length c.args.hads.now in
    let i : ℕ = n - 1 - c.loop-back.back in
    let here = slice_get_read c.args.filled.now _ i c.index-filled-i.result refl (omega (arith, c.loop-back-test.true, c.requires.few)) c.index-filled-i.is in
    let there = slice_get_read c.args.hads.now _ i c.index-hads-i.result refl (omega (arith, c.loop-back-test.true)) c.index-hads-i.is in
    let last : i ≡ n - (c.loop-back.back + 1) = omega arith in
    c.unpin.ensures (with_pins_of (take i c.args.filled.now) before)
    (had_were c.args.filled.now before c.args.hads.now were i (n - c.loop-back.back) c.index-filled-i.result c.index-hads-i.result here there
    c.deref.result.now c.deref.ensures.value)
    (had_kept c.args.filled.now before c.args.hads.now were i (n - c.loop-back.back) c.index-filled-i.result c.index-hads-i.result here there
    c.deref.result.now c.deref.ensures.value c.loop-back.pins (c.loop-back.invariant before were is) (omega (arith, c.loop-back-test.true)))
    ∙ ap (λ (k : ℕ). with_pins_of (take k c.args.filled.now) before) last
