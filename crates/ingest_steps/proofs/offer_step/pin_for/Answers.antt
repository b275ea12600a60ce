use Rattle.ingest_steps.proofs.Prelude.{◌≡◌, Option, ap, subst, sym, ◌∙◌, Writing, part_of, with_part, Pin, PinMap}
use Rattle.std.specs.Global.{Vec}
use Rattle.base_model.proofs.Outcome.{map_ok}
use Rattle.ingest_steps.specs.Offering.{WereHadIn, with_pins_of}
use Rattle.ingest_steps.proofs.AfterReads.{map_on_ok}
use Rattle.ingest_steps.proofs.HeldPins.{same_pins, set_after, taken_back}
use Rattle.ingest_steps.proofs.StepRefusals.{map_on_err}
use Rattle.ingest_steps.proofs.offer_step.pin_for.Goals as goal

pub returns-clause-ok : goal.returns-clause-ok
returns-clause-ok c =
    let filled = c.args.filled.now in
    map_on_ok c.pin_each-hads.result (c.pin_each-hads.new.pins ≡ with_pins_of filled c.in-Writing.pins)
    ((pins : PinMap) → part_of c.args.parts.now c.args.actor ≡ Writing pins
    → c.set.new.self ≡ with_part c.args.parts.now c.args.actor (Writing (with_pins_of filled pins)))
    (λ is pins writing.
    set_after c.args.parts.now c.take.new.self c.set.new.self c.args.actor (Writing c.pin_each-hads.new.pins) c.take.ensures.left c.set.ensures.parts
    ∙ ap (λ (p : PinMap). with_part c.args.parts.now c.args.actor (Writing p))
    (is ∙ ap (with_pins_of filled) (same_pins c.in-Writing.pins pins (sym c.in-Writing.is ∙ c.take.ensures.taken ∙ writing))))
    c.pin_each-hads.ensures.ok

pub returns-clause-had : goal.returns-clause-had
returns-clause-had c =
    let filled = c.args.filled.now in
    map_ok c.pin_each-hads.result (λ hads. WereHadIn filled c.in-Writing.pins hads.items)
    (λ hads. (pins : PinMap) → part_of c.args.parts.now c.args.actor ≡ Writing pins → WereHadIn filled pins hads.items)
    (λ (hads : Vec (Vec (Option Pin))) were pins writing.
    subst (λ (p : PinMap). WereHadIn filled p hads.items) (same_pins c.in-Writing.pins pins (sym c.in-Writing.is ∙ c.take.ensures.taken ∙ writing)) were)
    c.pin_each-hads.ensures.had

pub returns-clause-unchanged : goal.returns-clause-unchanged
returns-clause-unchanged c =
    map_on_err c.pin_each-hads.result (c.pin_each-hads.new.pins ≡ c.in-Writing.pins) (c.set.new.self ≡ c.args.parts.now)
    (λ is. taken_back c.args.parts.now c.take.new.self c.set.new.self c.args.actor (Writing c.pin_each-hads.new.pins) c.take.ensures.left c.set.ensures.parts
    (ap Writing is ∙ sym c.in-Writing.is ∙ c.take.ensures.taken))
    c.pin_each-hads.ensures.err
