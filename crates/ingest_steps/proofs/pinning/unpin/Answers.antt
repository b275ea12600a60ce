use Rattle.ingest_steps.proofs.Prelude.{◌≡◌, ◌+◌, ◌-◌, ℕ, List, None, Option, length, take, get_or, ap, ◌∙◌, arith, segment_at, segment_key, Pin, PinMap, pin_by, had_again, with_pins}
use Rattle.std.specs.FinMap as finite
use Rattle.ingest_steps.proofs.PinList.{pins_next, there_after, pin_back}
use Rattle.ingest_steps.proofs.pinning.unpin.Goals as goal

pub give_back-requires-clause-there : goal.give_back-requires-clause-there
give_back-requires-clause-there c =
    let filled = c.args.filled.now in
    let n : ℕ = length c.args.hads.now in
    let i : ℕ = n - 1 - c.loop-back.back in
    let before : PinMap = c.requires.kept.0 in
    let s = segment_at filled.segments i in
    there_after c.loop-back.pins (with_pins filled.kind (take i filled.segments) before) (segment_key filled.kind s) c.key_at.result (pin_by filled.kind s)
    (c.loop-back.invariant before c.requires.kept.1 c.requires.kept.2
    ∙ pins_next filled.kind filled.segments before i (n - c.loop-back.back) (omega (arith, c.loop-back-test.true, c.requires.few)) (omega (arith, c.loop-back-test.true)))
    c.key_at.ensures

pub loop-back-preserved : goal.loop-back-preserved
loop-back-preserved c = λ before were is.
    let filled = c.args.filled.now in
    let n : ℕ = length c.args.hads.now in
    let i : ℕ = n - 1 - c.loop-back.back in
    let s = segment_at filled.segments i in
    let h : Option Pin = get_or c.args.hads.now i None in
    let key : List ℕ = segment_key filled.kind s in
    let m : PinMap = with_pins filled.kind (take i filled.segments) before in
    let next : c.loop-back.pins ≡ finite.insert m key (pin_by filled.kind s) =
    c.loop-back.invariant before were is
    ∙ pins_next filled.kind filled.segments before i (n - c.loop-back.back) (omega (arith, c.loop-back-test.true, c.requires.few)) (omega (arith, c.loop-back-test.true)) in
    let last : i ≡ n - (c.loop-back.back + 1) = omega arith in
    c.give_back.ensures
    ∙ ap (λ (k : List ℕ). had_again h k c.loop-back.pins) c.key_at.ensures
    ∙ ap (had_again h key) next
    ∙ pin_back m key (pin_by filled.kind s) h (were i (omega (arith, c.loop-back-test.true)))
    ∙ ap (λ (k : ℕ). with_pins filled.kind (take k filled.segments) before) last
