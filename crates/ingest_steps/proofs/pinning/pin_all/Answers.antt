use Rattle.ingest_steps.proofs.Prelude.{◌≡◌, ◌+◌, ◌<◌, ℕ, List, Option, length, take, ap, sym, subst, ◌∙◌, arith, IfSome, AllByRecursion, segment_at, segment_key, Pin, PinMap, IsPin, pin_by, WereHad, with_pins}
use Rattle.std.specs.FinMap as finite
use Rattle.ingest_steps.proofs.PinList.{pins_next, had_push, length-push}
use Rattle.ingest_steps.proofs.pinning.pin_all.Goals as goal
use Rattle.merkle_file.proofs.Placing.{all_push}

pub unpin-requires-clause-kept : goal.unpin-requires-clause-kept
unpin-requires-clause-kept c =
    let filled = c.args.filled.now in
    let inv = c.loop-i.invariant in
    let many : c.loop-i.i ≡ length c.deref.result.now = sym (ap length c.deref.ensures.value ∙ inv.0) in (
      c.args.pins.now,
      subst (WereHad filled.kind filled.segments c.args.pins.now) (sym c.deref.ensures.value) inv.3,
      c.in-Err.ensures.err ∙ inv.2 ∙ ap (λ (k : ℕ). with_pins filled.kind (take k filled.segments) c.args.pins.now) many,
    )

pub loop-i-preserved : goal.loop-i-preserved
loop-i-preserved c =
    let filled = c.args.filled.now in
    let inv = c.loop-i.invariant in
    let i : ℕ = c.loop-i.i in
    let s = segment_at filled.segments i in
    let key : List ℕ = segment_key filled.kind s in
    let pins : PinMap = c.args.pins.now in
    let hads : List (Option Pin) = c.loop-i.hads.items in
    let within : i < length filled.segments = omega (arith, c.loop-i-test.true, c.len-i-end.ensures) in
    let next : with_pins filled.kind (take (i + 1) filled.segments) pins ≡ finite.insert (with_pins filled.kind (take i filled.segments) pins) key (pin_by filled.kind s) =
    pins_next filled.kind filled.segments pins i (i + 1) within (omega arith) in (
      ap length c.push_had.ensures.items ∙ length-push hads c.in-Ok.had ∙ ap (λ (k : ℕ). k + 1) inv.0,
      omega (arith, inv.1, c.push_had.ensures.capacity),
      c.in-Ok.ensures.ok ∙ ap (λ (m : PinMap). finite.insert m key (pin_by filled.kind s)) inv.2 ∙ sym next,
      subst (WereHad filled.kind filled.segments pins) (sym c.push_had.ensures.items)
          (had_push filled.kind filled.segments pins hads c.in-Ok.had i inv.0 inv.3 (c.in-Ok.ensures.had ∙ ap (λ (m : PinMap). finite.get m key) inv.2)),
      subst (AllByRecursion (λ (h : Option Pin). IfSome h IsPin)) (sym c.push_had.ensures.items)
          (all_push (λ (h : Option Pin). IfSome h IsPin) hads c.in-Ok.had inv.4 c.in-Ok.ensures.right),
    )
