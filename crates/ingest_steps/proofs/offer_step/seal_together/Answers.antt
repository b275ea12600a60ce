use Rattle.ingest_steps.proofs.Prelude.{◌≡◌, ℕ, ◌+◌, List, length, take, None, ap, sym, subst, ◌∙◌, arith, passed, passed_on, Shows, reads_here, Done, ending_of, Contents, Part, Writing, part_of, with_part, apart, Refusal, Steps, IsSealRefusal}
use Rattle.container_log.specs.Many.{placed}
use Rattle.store_state.specs.Refused.{blames}
use Rattle.ingest_steps.specs.Offering.{AreCompared, HasSlots, IsOfferRefusal, IsUnkeptIn, MayKeepAll, WereCompared, WereHadIn, in_free, offer_in, with_pins_of}
use Rattle.ingest_steps.specs.SealingAll.{HasPlacesOfAll, HaveSealed}
use Rattle.ingest_steps.proofs.Offered.{first_many, have_first}
use Rattle.ingest_steps.proofs.PlacedOn.{offer_as, offer_refused, placed_as}
use Rattle.ingest_steps.proofs.SealedPins.{keeps_offered}
use Rattle.ingest_steps.proofs.StepRefusals.{of_slots, of_together, of_unkept, slots_blame, steps_here}
use Rattle.ingest_steps.proofs.offer_step.seal_together.Goals as goal

pub returns-in_err-may_keep_all-clause-refused : goal.returns-in_err-may_keep_all-clause-refused
returns-in_err-may_keep_all-clause-refused g c =
    let old = g.D.Disk.view c.args.disk.now in
    let known = g.X.Index.places c.args.index.now old.content in
    let part = part_of c.args.parts.now c.args.actor in
    let filled = c.args.filled.now in
    let compared : List Contents → Refusal → Type 0 = AreCompared old.size known (Shows old old) in
    let e = c.in_err-may_keep_all.field-0.0 in
    passed_on c.from_residual.result (IsOfferRefusal part c.args.tables.now old.size known filled compared) e c.from_residual.ensures.1
    (of_unkept part c.args.tables.now old.size known filled compared e (subst (λ (p : Part). IsUnkeptIn p filled e) c.part.ensures.part c.in_err-may_keep_all.ensures.refused))

pub returns-in_err-slots-clause-refused : goal.returns-in_err-slots-clause-refused
returns-in_err-slots-clause-refused g c =
    let old = g.D.Disk.view c.args.disk.now in
    let known = g.X.Index.places c.args.index.now old.content in
    let part = part_of c.args.parts.now c.args.actor in
    let filled = c.args.filled.now in
    let compared : List Contents → Refusal → Type 0 = AreCompared old.size known (Shows old old) in
    let e = c.in_err-slots.field-0.0 in
    passed_on c.from_residual-in_err-slots.result (IsOfferRefusal part c.args.tables.now old.size known filled compared) e c.from_residual-in_err-slots.ensures.1
    (of_slots part c.args.tables.now old.size known filled compared (subst (λ (p : Part). MayKeepAll p filled) c.part.ensures.part c.in_ok-may_keep_all.ensures.may) e
    (c.in_err-slots.ensures.refused old.size))

pub returns-in_err-slots-clause-disk : goal.returns-in_err-slots-clause-disk
returns-in_err-slots-clause-disk g c =
    let v = g.D.Disk.view c.args.disk.now in
    let slots = c.args.tables.now.slots in
    let e = c.in_err-slots.field-0.0 in
    passed (λ x. Steps slots x v v) blames c.from_residual-in_err-slots.result e c.from_residual-in_err-slots.ensures.1
    (steps_here slots (blames e) v (slots_blame c.args.tables.now v.size e (c.in_err-slots.ensures.refused v.size)))

pub returns-in_err-slots-clause-moves : goal.returns-in_err-slots-clause-moves
returns-in_err-slots-clause-moves g c =
    let v = g.D.Disk.view c.args.disk.now in
    let t = c.args.tables.now in
    offer_refused t (g.X.Index.places c.args.index.now v.content) (offer_in t c.args.filled.now) v c.from_residual-in_err-slots.result _
    c.from_residual-in_err-slots.ensures.1 (reads_here v)

pub returns-in_err-hads-clause-moves : goal.returns-in_err-hads-clause-moves
returns-in_err-hads-clause-moves g c =
    let v = g.D.Disk.view c.args.disk.now in
    let t = c.args.tables.now in
    offer_refused t (g.X.Index.places c.args.index.now v.content) (offer_in t c.args.filled.now) v c.from_residual-in_err-hads.result _
    c.from_residual-in_err-hads.ensures.1 (reads_here v)

-- ---- the first of them, for which there is room

pub slice_bounds-first-end : goal.slice_bounds-first-end
slice_bounds-first-end g c =
    let filled = c.args.filled.now in
    let t = c.args.tables.now in
    let slots : List ℕ = c.in_ok-slots.slots.items in
    let long : c.len.result ≡ length slots = omega (arith, c.len.ensures, c.in_ok-slots.slots.ok.0) in
    let old = g.D.Disk.view c.args.disk.now in
    sym (subst (λ (n : ℕ). length (take n filled) ≡ n) (sym long) (first_many old.size t c.requires.state filled slots c.in_ok-slots.ensures.slots))

pub seal_some-requires-clause-slots : goal.seal_some-requires-clause-slots
seal_some-requires-clause-slots g c =
    let filled = c.args.filled.now in
    (length filled, subst (HasSlots c.args.tables.now (length filled)) (sym c.deref.ensures.value) c.in_ok-slots.ensures.slots)

pub seal_some-requires-clause-many : goal.seal_some-requires-clause-many
seal_some-requires-clause-many g c =
    let filled = c.args.filled.now in
    let slots : List ℕ = c.in_ok-slots.slots.items in
    let long : c.len.result ≡ length slots = omega (arith, c.len.ensures, c.in_ok-slots.slots.ok.0) in
    let old = g.D.Disk.view c.args.disk.now in
    ap (λ (n : ℕ). length (take n filled)) long
    ∙ first_many old.size c.args.tables.now c.requires.state filled slots c.in_ok-slots.ensures.slots ∙ sym (ap length c.deref.ensures.value)

pub seal_some-requires-clause-there : goal.seal_some-requires-clause-there
seal_some-requires-clause-there g c = have_first c.len.result c.args.filled.now c.requires.offer.segments

-- ---- they are sealed

pub returns-in-Ok-clause-ok : goal.returns-in-Ok-clause-ok
returns-in-Ok-clause-ok g c =
    let view = g.D.Disk.view in
    let places = g.X.Index.places in
    let old = view c.args.disk.now in
    let new = view c.seal_some.new.disk in
    let known = places c.args.index.now old.content in
    let t = c.args.tables.now in
    let filled = c.args.filled.now in
    let slots : List ℕ = c.in_ok-slots.slots.items in
    let first = take c.len.result filled in
    let count : ℕ = length first in
    let long : c.len.result ≡ length slots = omega (arith, c.len.ensures, c.in_ok-slots.slots.ok.0) in
    let counted : count ≡ length slots =
    ap (λ (n : ℕ). length (take n filled)) long ∙ first_many old.size t c.requires.state filled slots c.in_ok-slots.ensures.slots in
    let firsts : first ≡ take count filled = ap (λ (n : ℕ). take n filled) (long ∙ sym counted) in
    let may = subst (λ (p : Part). MayKeepAll p filled) c.part.ensures.part c.in_ok-may_keep_all.ensures.may in
    record {
      may = may;
      slots = slots;
      has = c.in_ok-slots.ensures.slots;
      count_is = counted;
      id_is = c.in-Ok.ensures.ok.0;
      compared = subst (WereCompared old.size known (Shows old new)) firsts c.in-Ok.ensures.ok.2;
      sealed = subst (λ (cs : List Contents). HaveSealed t old.size known cs c.seal_some.new.tables) firsts c.in-Ok.ensures.ok.1;
      map = subst (λ (l : List ℕ). HasPlacesOfAll (placed l (t.held.last_id + 1) (take count filled)) (places c.args.index.now)
          (places c.seal_some.new.index) old.content new.content) c.deref.ensures.value
          (subst (λ (cs : List Contents). HasPlacesOfAll (placed c.deref.result.now (t.held.last_id + 1) cs) (places c.args.index.now)
          (places c.seal_some.new.index) old.content new.content) firsts c.in-Ok.ensures.map);
      parts_are = c.in_ok-hads.ensures.ok may.pins may.writing
          ∙ ap (λ (cs : List Contents). with_part c.args.parts.now c.args.actor (Writing (with_pins_of cs may.pins))) firsts;
    }

pub returns-in-Ok-clause-moves : goal.returns-in-Ok-clause-moves
returns-in-Ok-clause-moves g c =
    let view = g.D.Disk.view in
    let old = view c.args.disk.now in
    let t = c.args.tables.now in
    let slots : List ℕ = c.in_ok-slots.slots.items in
    let long : c.len.result ≡ length slots = omega (arith, c.len.ensures, c.in_ok-slots.slots.ok.0) in
    let filled = c.args.filled.now in
    let first = take c.len.result filled in
    placed_as old.size None t c.requires.state (g.X.Index.places c.args.index.now old.content) (in_free (t.held.last_id + 1) first) (offer_in t filled) Done old
    (view c.seal_some.new.disk)
    (offer_as t slots filled first c.in_ok-slots.ensures.slots (ap (λ (n : ℕ). take n filled) long))
    c.in-Ok.ensures.moves

pub returns-in-Ok-clause-kept : goal.returns-in-Ok-clause-kept
returns-in-Ok-clause-kept g c =
    let view = g.D.Disk.view in
    let places = g.X.Index.places in
    let old = view c.args.disk.now in
    let new = view c.seal_some.new.disk in
    let known = places c.args.index.now old.content in
    let t = c.args.tables.now in
    let filled = c.args.filled.now in
    let slots : List ℕ = c.in_ok-slots.slots.items in
    let long : c.len.result ≡ length slots = omega (arith, c.len.ensures, c.in_ok-slots.slots.ok.0) in
    let first = take c.len.result filled in
    let may = subst (λ (p : Part). MayKeepAll p filled) c.part.ensures.part c.in_ok-may_keep_all.ensures.may in
    let is_first : first ≡ take (length slots) filled = ap (λ (n : ℕ). take n filled) long in
    let many : length first ≡ length slots = ap length is_first ∙ first_many old.size t c.requires.state filled slots c.in_ok-slots.ensures.slots in
    let map : HasPlacesOfAll (placed slots (t.held.last_id + 1) first) (places c.args.index.now) (places c.seal_some.new.index) old.content new.content =
    subst (λ (l : List ℕ). HasPlacesOfAll (placed l (t.held.last_id + 1) first) (places c.args.index.now)
    (places c.seal_some.new.index) old.content new.content) c.deref.ensures.value c.in-Ok.ensures.map in
    keeps_offered old new known (places c.seal_some.new.index new.content) t c.seal_some.new.tables c.args.parts.now c.pin_for.new.parts c.args.actor filled slots
    c.requires.state c.in_ok-slots.ensures.slots first is_first many c.part.ensures.there c.requires.step may (c.in_ok-hads.ensures.ok may.pins may.writing)
    (placed_as old.size None t c.requires.state known (in_free (t.held.last_id + 1) first) (offer_in t filled) Done old new
    (offer_as t slots filled first c.in_ok-slots.ensures.slots is_first) c.in-Ok.ensures.moves)
    (λ before m content is. map.told before content m is)

-- ---- they are not

pub unpin_for-requires-clause-kept : goal.unpin_for-requires-clause-kept
unpin_for-requires-clause-kept g c =
    let filled = c.args.filled.now in
    let first = take c.len.result filled in
    let may = subst (λ (p : Part). MayKeepAll p filled) c.part.ensures.part c.in_ok-may_keep_all.ensures.may in
    let kept : Part = Writing (with_pins_of first may.pins) in
    let pinned : c.pin_for.new.parts ≡ with_part c.args.parts.now c.args.actor kept = c.in_ok-hads.ensures.ok may.pins may.writing in (
      may.pins,
      subst (WereHadIn first may.pins) (sym c.deref-in-Err.ensures.value) (c.in_ok-hads.ensures.had may.pins may.writing),
      ap (λ (p : List Part). part_of p c.args.actor) pinned ∙ apart.same c.args.parts.now c.args.actor kept c.part.ensures.there,
    )

pub returns-clause-refused : goal.returns-clause-refused
returns-clause-refused g c =
    let view = g.D.Disk.view in
    let old = view c.args.disk.now in
    let new = view c.seal_some.new.disk in
    let known = g.X.Index.places c.args.index.now old.content in
    let filled = c.args.filled.now in
    let slots : List ℕ = c.in_ok-slots.slots.items in
    let long : c.len.result ≡ length slots = omega (arith, c.len.ensures, c.in_ok-slots.slots.ok.0) in
    let e = c.in-Err.refusal in
    of_together (part_of c.args.parts.now c.args.actor) c.args.tables.now old.size known filled (Shows old new)
    (subst (λ (p : Part). MayKeepAll p filled) c.part.ensures.part c.in_ok-may_keep_all.ensures.may) slots c.in_ok-slots.ensures.slots e
    (subst (λ (n : ℕ). IsSealRefusal known (AreCompared old.size known (Shows old new) (take n filled)) e) long c.in-Err.ensures.refused)

pub returns-clause-unchanged : goal.returns-clause-unchanged
returns-clause-unchanged g c =
    let filled = c.args.filled.now in
    let first = take c.len.result filled in
    let parts = c.args.parts.now in
    let actor = c.args.actor in
    let may = subst (λ (p : Part). MayKeepAll p filled) c.part.ensures.part c.in_ok-may_keep_all.ensures.may in
    let kept : Part = Writing (with_pins_of first may.pins) in
    let pinned : c.pin_for.new.parts ≡ with_part parts actor kept = c.in_ok-hads.ensures.ok may.pins may.writing in (
      c.in-Err.ensures.unchanged,
      c.unpin_for.ensures may.pins
          (subst (WereHadIn first may.pins) (sym c.deref-in-Err.ensures.value) (c.in_ok-hads.ensures.had may.pins may.writing))
          (ap (λ (p : List Part). part_of p actor) pinned ∙ apart.same parts actor kept c.part.ensures.there)
          ∙ ap (λ (p : List Part). with_part p actor (Writing may.pins)) pinned
          ∙ apart.replaced parts actor kept (Writing may.pins)
          ∙ ap (with_part parts actor) (sym may.writing)
          ∙ apart.unchanged parts actor,
    )

pub returns-clause-moves : goal.returns-clause-moves
returns-clause-moves g c =
    let view = g.D.Disk.view in
    let old = view c.args.disk.now in
    let t = c.args.tables.now in
    let slots : List ℕ = c.in_ok-slots.slots.items in
    let long : c.len.result ≡ length slots = omega (arith, c.len.ensures, c.in_ok-slots.slots.ok.0) in
    let filled = c.args.filled.now in
    let first = take c.len.result filled in
    placed_as old.size None t c.requires.state (g.X.Index.places c.args.index.now old.content) (in_free (t.held.last_id + 1) first) (offer_in t filled)
    (ending_of (blames c.in-Err.refusal)) old (view c.seal_some.new.disk)
    (offer_as t slots filled first c.in_ok-slots.ensures.slots (ap (λ (n : ℕ). take n filled) long))
    c.in-Err.ensures.moves
