use Rattle.ingest_steps.proofs.Prelude.{◌≡◌, ◌∙◌, ap, sym, Writing, with_part, PinMap}
use Rattle.std.specs.FinMap as finite
use Rattle.ingest_steps.proofs.HeldPins.{on_err, same_pins, set_after, taken_back}
use Rattle.ingest_steps.proofs.claiming.add_pin.Goals as goal

-- there was no memory
pub returns-in_err-added-in-Writing-clause-unchanged : goal.returns-in_err-added-in-Writing-clause-unchanged
returns-in_err-added-in-Writing-clause-unchanged c =
    on_err c.from_residual.result (c.set.new.self ≡ c.args.parts.now)
    (taken_back c.args.parts.now c.take.new.self c.set.new.self c.args.actor (Writing c.add-added.new.self) c.take.ensures.left c.set.ensures.parts
    (ap Writing c.in_err-added-in-Writing.ensures.err ∙ sym c.in-Writing.is ∙ c.take.ensures.taken))

-- the pin is there
pub returns-clause-parts : goal.returns-clause-parts
returns-clause-parts c = λ pins writing.
    set_after c.args.parts.now c.take.new.self c.set.new.self c.args.actor (Writing c.add-added.new.self) c.take.ensures.left c.set.ensures.parts
    ∙ ap (λ (p : PinMap). with_part c.args.parts.now c.args.actor (Writing p))
    (c.in_ok-added-in-Writing.ensures.ok
    ∙ ap (λ (p : PinMap). finite.insert p c.args.key.now c.args.pin) (same_pins c.in-Writing.pins pins (sym c.in-Writing.is ∙ c.take.ensures.taken ∙ writing)))
