-- What an actor has kept of a file is held and pinned still, once the answer to a turn is told.
use Rattle.session_turns.proofs.Prelude.{kept_sealed, ACTORS, AllByRecursion, Answer, Claim, Contents, CoreState, Due, History, HoldsKept, IsAskedFor, IsOffered, in_none, one_of, Kind, KindSegment, List, Ok, PinMap, Row, Seal, Segment, SessionState, StepValue, [], answered, ap, apart, arith, due_in, inl, inr, item_is, kept, kept_absent, kept_by, kept_held, length, of_kind, one_item, offered_in, pin_of, refl, segment_key, subst, sym, turn_node, HasHistory, ℕ, ◌<◌, ◌∙◌, ◌∷◌, ◌≡◌}
use Rattle.std.specs.FinMap as finite
use Rattle.actor_parts.specs.declared.part.Part as core_part
use Rattle.actor_parts.specs.declared.part.Part.TheVariants as core_parts
use Rattle.actor_parts.specs.declared.step.Answer.TheVariants as answers
use Rattle.actor_parts.specs.Parts.{part_of, with_part}
use Rattle.actor_parts.specs.StepValue as steps
use Rattle.ingest_steps.specs.Claiming.{key_of_seg}
use Rattle.ingest_session.specs.declared.due.Due.TheVariants as dues
use Rattle.ingest_session.specs.History.{item_if}
use Rattle.ingest_session.specs.Items.{item_of}
use Rattle.ingest_session.specs.Due.{segments_of_all}
use Rattle.ingest_session.proofs.Members.{IsIn, all_after, all_before, in_either}
use Rattle.ingest_session.proofs.SealsSome.{offer_kinds}
use Rattle.ingest_session.proofs.Waiting.{session_of}
use Rattle.ingest_steps.specs.Offering.{with_pins_of}
use Rattle.store_core.specs.Keeping.{IsHeldIn, segments_in}
use Rattle.store_core.proofs.ManySealed.{all_taken}
use Rattle.session_turns.proofs.KeptPins.{HasPin, pin_now, pin_on, pins_now_all, pins_on_all}
use Rattle.std.proofs.Common.{map, take}

unmapped : {A B : Type 0} (P : B → Type 0) (f : A → B) (xs : List A) → AllByRecursion P (map f xs) → AllByRecursion (λ x. P (f x)) xs
unmapped P f [] all = tt
unmapped P f (x ∷ xs) all = (all.0, unmapped P f xs all.1)

-- P holds of each segment of containers of one kind
one_in : (P : KindSegment → Type 0) (kind : Kind) (cs : List Contents) → AllByRecursion (λ c. c.kind ≡ kind) cs → AllByRecursion P (segments_in cs) → (y : Segment)
    → IsIn y (segments_of_all cs) → P (of_kind kind y)
one_in P kind [] are all y there = absurd (in_none y there)
one_in P kind (c ∷ cs) are all y there = elim (in_either c.segments (segments_of_all cs) y there) [
  | inl here ↦
      let first = unmapped P (of_kind c.kind) c.segments (all_before P (map (of_kind c.kind) c.segments) (segments_in cs) all) in
      subst (λ (k : Kind). P (of_kind k y)) are.0 (one_of (λ x. P (of_kind c.kind x)) c.segments y first here)
  | inr later ↦ one_in P kind cs are.1 (all_after P (map (of_kind c.kind) c.segments) (segments_in cs) all) y later
]

same_pins : (a b : PinMap) → core_parts.Writing a ≡ core_parts.Writing b → a ≡ b
same_pins a b is = cc

module _ (old new : CoreState) (a : ℕ) (below : a < ACTORS) (many : length old.parts ≡ ACTORS) (x : SessionState) (h : History) (own : HoldsKept a (kept h) old)
    (held : (seg : KindSegment) → IsHeldIn seg old → IsHeldIn seg new) where
  abbrev Then : Answer → Type 0
  Then answer = HoldsKept a (kept (answered answer x h)) new

  writes : (pins : PinMap) → new.parts ≡ with_part old.parts a (core_parts.Writing pins) → part_of new.parts a ≡ core_parts.Writing pins
  writes pins is = ap (λ (parts : List core_part.Part). part_of parts a) is ∙ apart.same old.parts a (core_parts.Writing pins) (omega (arith, below, many))

  -- the pins that a step found are those of the actor
  as_own : (pins : PinMap) (f : PinMap → PinMap) → part_of old.parts a ≡ core_parts.Writing pins → new.parts ≡ with_part old.parts a (core_parts.Writing (f pins))
      → part_of new.parts a ≡ core_parts.Writing (f own.pins)
  as_own pins f was is = writes (f pins) is ∙ ap (λ (p : PinMap). core_parts.Writing (f p)) (same_pins pins own.pins (sym was ∙ own.writing))

  -- ---- a claim

  module _ (seg : KindSegment) (offered : IsOffered x seg) where
    item_seg : (kind : Kind) (y : Segment) → IsIn y (item_if kind x) → seg ≡ of_kind kind y
    item_seg kind y is =
        let item = one_item x kind y is in
        item_is (turn_node x) x.queue seg offered.is ∙ ap (λ (k : Kind). of_kind k (item_of (turn_node x) x.queue)) (sym item.0) ∙ ap (of_kind kind) (sym item.1)

    held_then : (pins : PinMap) → part_of old.parts a ≡ core_parts.Writing pins
        → new.parts ≡ with_part old.parts a (core_parts.Writing (finite.insert pins (key_of_seg seg) (pin_of seg))) → IsHeldIn seg new → Then answers.Held
    held_then pins was is here = record {
      pins = finite.insert own.pins (key_of_seg seg) (pin_of seg);
      writing = as_own pins (λ p. finite.insert p (key_of_seg seg) (pin_of seg)) was is;
      held = λ kind y there. elim (kept_held x h kind y there) [
        | inl before ↦ held (of_kind kind y) (own.held kind y before)
        | inr now ↦ subst (λ (s : KindSegment). IsHeldIn s new) (item_seg kind y now) here
      ];
      pinned = λ kind y there. elim (kept_held x h kind y there) [
        | inl before ↦ pin_on own.pins (key_of_seg seg) (pin_of seg) (segment_key kind y) (own.pinned kind y before)
        | inr now ↦ pin_now own.pins (key_of_seg seg) (pin_of seg) (segment_key kind y) (ap key_of_seg (sym (item_seg kind y now)))
      ];
    }

  absent_then : new.parts ≡ old.parts → Then answers.Absent
  absent_then same = record {
    pins = own.pins;
    writing = ap (λ (parts : List core_part.Part). part_of parts a) same ∙ own.writing;
    held = λ kind y there. held (of_kind kind y) (own.held kind y (kept_absent x h kind y there));
    pinned = λ kind y there. own.pinned kind y (kept_absent x h kind y there);
  }

  -- ---- a seal

  module _ (offered : List Contents) (mine : Kind) (due : due_in x ≡ dues.Seal mine) (offered_is : offered ≡ offered_in x mine) (has : HasHistory x h) (id count : ℕ) where
    abbrev sealed : List Contents
    sealed = take count offered

    kinds : AllByRecursion (λ c. c.kind ≡ mine) sealed
    kinds =
        subst (λ (cs : List Contents). AllByRecursion (λ c. c.kind ≡ mine) (take count cs)) (sym offered_is)
        (all_taken (λ c. c.kind ≡ mine) count (offered_in x mine) (offer_kinds x mine (session_of x h has)))

    in_sealed : (y : Segment) → IsIn y (segments_of_all (take count (offered_in x mine))) → IsIn y (segments_of_all sealed)
    in_sealed y is = subst (λ (cs : List Contents). IsIn y (segments_of_all (take count cs))) (sym offered_is) is

    sealed_then : (pins : PinMap) → part_of old.parts a ≡ core_parts.Writing pins
        → new.parts ≡ with_part old.parts a (core_parts.Writing (with_pins_of sealed pins))
        → AllByRecursion (λ seg. IsHeldIn seg new) (segments_in sealed) → Then (answers.Sealed id count)
    sealed_then pins was is all = record {
      pins = with_pins_of sealed own.pins;
      writing = as_own pins (with_pins_of sealed) was is;
      held = λ kind y there. elim (kept_sealed x h kind y id count mine due there) [
        | inl before ↦ held (of_kind kind y) (own.held kind y before)
        | inr now ↦
            subst (λ (k : Kind). IsHeldIn (of_kind k y) new) (sym now.0)
            (one_in (λ seg. IsHeldIn seg new) mine sealed kinds all y (in_sealed y now.1))
      ];
      pinned = λ kind y there. elim (kept_sealed x h kind y id count mine due there) [
        | inl before ↦ pins_on_all sealed own.pins (segment_key kind y) (own.pinned kind y before)
        | inr now ↦
            subst (λ (k : Kind). HasPin (with_pins_of sealed own.pins) (segment_key k y)) (sym now.0)
            (pins_now_all mine sealed own.pins kinds y (in_sealed y now.1))
      ];
    }

  -- ---- any turn

  turned_by : HasHistory x h → (due : Due) → due_in x ≡ due → (step : StepValue) (answer : Answer) (buf : List ℕ) → IsAskedFor due x step → Row step a (Ok answer) buf old new
      → AllByRecursion (λ seg. IsHeldIn seg new) (kept_by step (Ok answer)) → Then answer
  turned_by has dues.Claim is (steps.Claim seg) answers.Held buf asked row all = held_then seg asked row.claimed.may.pins row.claimed.may.writing row.claimed.parts_are all.0
  turned_by has dues.Claim is (steps.Claim seg) answers.Absent buf asked row all = absent_then row.claimed.parts_are
  turned_by has dues.Claim is (steps.Claim seg) answer buf asked row all = absurd row
  turned_by has (dues.Seal mine) is (steps.Seal offered) (answers.Sealed id count) buf asked row all =
      sealed_then offered mine is asked has id count row.may.pins row.may.writing row.parts_are all
  turned_by has (dues.Seal mine) is (steps.Seal offered) answer buf asked row all = absurd row
  turned_by has due is step answer buf asked row all = absurd asked

  pub turned_then : HasHistory x h → (step : StepValue) (answer : Answer) (buf : List ℕ) → IsAskedFor (due_in x) x step → Row step a (Ok answer) buf old new
      → AllByRecursion (λ seg. IsHeldIn seg new) (kept_by step (Ok answer)) → Then answer
  turned_then has step answer buf asked row all = turned_by has (due_in x) refl step answer buf asked row all
