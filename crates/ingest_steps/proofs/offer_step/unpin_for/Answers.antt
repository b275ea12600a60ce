use Rattle.ingest_steps.proofs.Prelude.{ap, sym, ◌∙◌, Writing, with_part, PinMap}
use Rattle.ingest_steps.specs.Offering.{with_pins_of}
use Rattle.ingest_steps.proofs.HeldPins.{same_pins, set_after}
use Rattle.ingest_steps.proofs.PinnedAll.{pins_of_whole}
use Rattle.ingest_steps.proofs.offer_step.unpin_for.Goals as goal

pub unpin_each-requires-clause-kept : goal.unpin_each-requires-clause-kept
unpin_each-requires-clause-kept c =
    let filled = c.args.filled.now in
    let before : PinMap = c.requires.kept.0 in (
      before,
      c.requires.kept.1,
      same_pins c.in-Writing.pins (with_pins_of filled before) (sym c.in-Writing.is ∙ c.take.ensures.taken ∙ c.requires.kept.2)
          ∙ sym (pins_of_whole filled before _ c.requires.many),
    )

pub returns : goal.returns
returns c = λ before were is.
    let filled = c.args.filled.now in
    let had = same_pins c.in-Writing.pins (with_pins_of filled before) (sym c.in-Writing.is ∙ c.take.ensures.taken ∙ is)
    ∙ sym (pins_of_whole filled before _ c.requires.many) in
    set_after c.args.parts.now c.take.new.self c.set.new.self c.args.actor (Writing c.unpin_each.new.pins) c.take.ensures.left c.set.ensures.parts
    ∙ ap (λ (p : PinMap). with_part c.args.parts.now c.args.actor (Writing p)) (c.unpin_each.ensures before were had)
