-- The claims on a way that were done: the segment is held and kept, or the index has no such segment.
use Rattle.backup_engine.proofs.Prelude.{both_so, ◌≡◌, ◌⊎◌, inl, inr, ℕ, List, [], ◌∷◌, ◌++◌, length, Some, None, option_map, Result, Ok, refl, sym, ◌∙◌, ap, subst, Kind, Place, PlaceMap, KindSegment, Segment, Writing, Answer, PinMap, IsStepSegment, pin_of, Refusal, HasPieceOf, key_of_seg, CoreStep, Steps, kept_of, FileEvent, CoreState, IsRunning, Way, AreKept, AreNew, length_in, IsPutStep}
use Rattle.std.specs.FinMap as finite
use Rattle.std.proofs.lemmas.List.{append-nil}
use Rattle.actor_parts.specs.declared.part.Part.{Part}
use Rattle.actor_parts.specs.declared.step.Answer.TheVariants as answers
use Rattle.actor_parts.specs.Parts.{part_of}
use Rattle.actor_parts.specs.StepValue as asked
use Rattle.store_core.specs.Core.{ClaimRow}
use Rattle.backup_engine.proofs.FirstActor.{Rested, by_first, steps_of, kept_ids, kept_indexed, first_part, up_of}
use Rattle.backup_engine.proofs.KeptPieces.{pinned_next}
use Rattle.backup_engine.proofs.Ways.{Stays, IsStepOn, file_event, put_step, rests, way_on}

pub same_pins : (a b : PinMap) → Writing a ≡ Writing b → a ≡ b
same_pins a b is = cc

-- a segment more is kept, of which the index has a copy that is as long
pub keeps_one : (kept : List KindSegment) (seg : KindSegment) (pins : PinMap) (places : PlaceMap) → AreKept kept pins places →
    length_in places (key_of_seg seg) ≡ Some (length seg.segment.bytes)
    → AreKept (kept ++ seg ∷ []) (finite.insert pins (key_of_seg seg) (pin_of seg)) places
keeps_one kept seg pins places are long = record {
  long = both_so (λ x. length_in places (key_of_seg x) ≡ Some (length x.segment.bytes)) kept (seg ∷ []) are.long (long, tt);
  pinned = pinned_next kept seg pins are.pinned;
}

module _ (C : Type 0) (state : C → CoreState) (files : List ℕ → Type 0) (opens : Kind → List Segment) (start old new : C) (w : Way C state files opens start old)
    (seg : KindSegment) (buf : List ℕ) where
  abbrev pub claim : Result Answer Refusal → FileEvent
  claim answer = file_event (asked.Claim seg) answer buf []

  pub claim_made : (answer : Result Answer Refusal) → CoreStep (state old) (by_first (asked.Claim seg) answer buf) (state new) → Steps (claim answer).event (state old) (state new)
  claim_made answer step = steps_of (state old) (state new) (claim answer).event w.runs step

  -- nothing else is answered
  pub held_or_absent : (answer : Answer) → CoreStep (state old) (by_first (asked.Claim seg) (Ok answer) buf) (state new) → (answer ≡ answers.Held) ⊎ (answer ≡ answers.Absent)
  held_or_absent answer step = by_row answer (claim_made (Ok answer) step).made.row
    where
      by_row : (a : Answer) → ClaimRow seg 0 (Ok a) (state old) (state new) → (a ≡ answers.Held) ⊎ (a ≡ answers.Absent)
      by_row answers.Held row = inl refl
      by_row answers.Absent row = inr refl
      by_row a row = absurd row

  module _ (right : IsStepSegment seg) (piece : (file : List ℕ) → files file → HasPieceOf file seg) where
    pub claim_put : (answer : Result Answer Refusal) (name file : List ℕ) → files file → IsPutStep name file (claim answer)
    claim_put answer name file is = put_step name file (asked.Claim seg) answer buf [] right (piece file is)

    claim_rests : (answer : Answer) → CoreStep (state old) (by_first (asked.Claim seg) (Ok answer) buf) (state new) → Rested (state old) (state new)
    claim_rests answer step =
        let effect = (claim_made (Ok answer) step).made.effect in
        record { kept = effect.tables; size_is = effect.disk.only.later.size_is }

    -- it is held, and kept from now on
    pub way_held : CoreStep (state old) (by_first (asked.Claim seg) (Ok answers.Held) buf) (state new) → IsRunning (state new)
        → (v : Way C state files opens start new) × (kept_of v.steps ≡ kept_of w.steps ++ seg ∷ []) × (v.places ≡ w.places)
    way_held step running =
        let steps = claim_made (Ok answers.Held) step in
        let rested = claim_rests answers.Held step in
        let claimed = steps.made.row.claimed in
        let pins : PinMap = finite.insert w.pins (key_of_seg seg) (pin_of seg) in
        let same : claimed.may.pins ≡ w.pins = same_pins claimed.may.pins w.pins (sym claimed.may.writing ∙ w.writing) in
        let stays : Stays (kept_of w.steps ++ seg ∷ []) opens (state new) = record {
          up = up_of (state new) steps.stops running;
          runs = steps.stops;
          pins = pins;
          writing = first_part (state old) (state new) (Writing (finite.insert claimed.may.pins (key_of_seg seg) (pin_of seg))) w.up claimed.parts_are
              ∙ ap (λ (p : PinMap). Writing (finite.insert p (key_of_seg seg) (pin_of seg))) same;
          places = w.places;
          known = rested.kept.index_is ∙ w.known;
          indexed = kept_indexed (state old) (state new) rested w.indexed;
          ids = kept_ids (state old) (state new) rested w.ids;
          kept = keeps_one (kept_of w.steps) seg w.pins w.places w.kept (ap (option_map (λ (p : Place). p.length)) (claimed.looked_up.found w.places w.known)
              ∙ ap (λ (n : ℕ). Some n) claimed.looked_up.length_is);
          fresh = w.fresh;
        } in
        let on : IsStepOn C state files opens start old w opens (claim (Ok answers.Held)) new = record {
          made = step;
          put = claim_put (Ok answers.Held);
          done = (tt, tt);
          adds = λ file is. rests file (state old) (state new) rested;
          stays = stays;
        } in
        way_on C state files opens start old w opens (claim (Ok answers.Held)) new on

    -- it isn't, and may be sealed
    pub way_absent : (more : Kind → List Segment)
        → ((kind : Kind) (places : PlaceMap) → AreNew places kind (opens kind) → finite.get places (key_of_seg seg) ≡ None → AreNew places kind (more kind))
        → CoreStep (state old) (by_first (asked.Claim seg) (Ok answers.Absent) buf) (state new) → IsRunning (state new)
        → (v : Way C state files more start new) × (kept_of v.steps ≡ kept_of w.steps) × (finite.get v.places (key_of_seg seg) ≡ None)
    way_absent more also step running =
        let steps = claim_made (Ok answers.Absent) step in
        let rested = claim_rests answers.Absent step in
        let claimed = steps.made.row.claimed in
        let none : finite.get w.places (key_of_seg seg) ≡ None = claimed.looked_up w.places w.known in
        let stays : Stays (kept_of w.steps ++ []) more (state new) = record {
          up = up_of (state new) steps.stops running;
          runs = steps.stops;
          pins = w.pins;
          writing = ap (λ (parts : List Part). part_of parts 0) claimed.parts_are ∙ w.writing;
          places = w.places;
          known = rested.kept.index_is ∙ w.known;
          indexed = kept_indexed (state old) (state new) rested w.indexed;
          ids = kept_ids (state old) (state new) rested w.ids;
          kept = subst (λ (l : List KindSegment). AreKept l w.pins w.places) (sym (append-nil (kept_of w.steps))) w.kept;
          fresh = λ kind. also kind w.places (w.fresh kind) none;
        } in
        let on : IsStepOn C state files opens start old w more (claim (Ok answers.Absent)) new = record {
          made = step;
          put = claim_put (Ok answers.Absent);
          done = (tt, tt);
          adds = λ file is. rests file (state old) (state new) rested;
          stays = stays;
        } in
        let next = way_on C state files opens start old w more (claim (Ok answers.Absent)) new on in
        (next.0, next.1 ∙ append-nil (kept_of w.steps), ap (λ (places : PlaceMap). finite.get places (key_of_seg seg)) next.2 ∙ none)
