use Rattle.ingest_steps.proofs.Prelude.{ℕ, passed_on, Refusal}
use Rattle.ingest_steps.specs.Offering.{IsSlotsRefusal}
use Rattle.ingest_steps.proofs.Sealed.{few_slots}
use Rattle.ingest_steps.proofs.Offered.{slots_are, slots_refused}
use Rattle.ingest_steps.proofs.offering.slots_for.Goals as goal

pub returns-in_err-slot_for-clause-refused : goal.returns-in_err-slot_for-clause-refused
returns-in_err-slot_for-clause-refused c =
    let e = c.in_err-slot_for.field-0.0 in
    passed_on c.from_residual.result (λ (r : Refusal). (size : ℕ) → IsSlotsRefusal c.args.tables.now size r) e c.from_residual.ensures.1
    (λ size. slots_refused c.args.tables.now size e (c.in_err-slot_for.ensures.refused size))

pub first_closed-requires : goal.first_closed-requires
first_closed-requires c = few_slots c.requires.runs.0 c.requires.runs.1 c.args.tables.now c.requires.runs.2

pub returns-clause-slots : goal.returns-clause-slots
returns-clause-slots c = λ size known. record {
  store_has = λ store is valid free.
      let at = (c.in_ok-slot_for.ensures.slot.slot_is size known).store_has store is valid free in
      slots_are c.args.tables.now c.args.offered c.room_for.result _ store ((c.room_for.ensures size known).store_has store is valid free)
      (c.in_ok-first_closed.ensures store.held is.slots_hold.ids_are valid.headers) c.requires.some at.spare c.in_ok-slot_for.ensures.slot.below;
}
