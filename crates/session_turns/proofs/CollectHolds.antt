-- What actors have pinned is held still after a step of a collection.
use Rattle.store_model.proofs.Copies.{some_same}
use Rattle.session_turns.proofs.Prelude.{◌≡◌, inr, ◌<◌, ℕ, List, [], Some, Result, sym, ◌∙◌, subst, PlaceMap, KindSegment, segment_key, slot_at, ACTORS, Pin, Answer, PinMap, pin_of, Refusal, Stored, Store, HasKey, IsStoreOf, FileEvent, IsAt, CoreState}
use Rattle.std.specs.FinMap as finite
use Rattle.std.specs.List.{Contains}
use Rattle.actor_parts.specs.declared.part.Part.TheVariants as core_parts
use Rattle.actor_parts.specs.declared.part.Part as core_part
use Rattle.actor_parts.specs.Parts.{part_of}
use Rattle.actor_parts.specs.StepValue as asked
use Rattle.gc_steps.specs.Roots.{IsPartKey}
use Rattle.gc_steps.specs.Safety.{IsNeeded}
use Rattle.gc_steps.proofs.PinnedTrees.{pinned_whole}
use Rattle.gc_steps.proofs.RootTrees.{root_there}
use Rattle.segment_index.specs.Changes.{SameBefore}
use Rattle.store_model.specs.Reserve.{tree_keys}
use Rattle.store_model.specs.Trees.{HasNewest}
use Rattle.store_model.proofs.FramedTrees.{newest_framed}
use Rattle.store_model.proofs.SameIndex.{same_copies}
use Rattle.store_state.specs.Invariant.{HoldsPart}
use Rattle.store_state.specs.Settled.{IsSettled}
use Rattle.store_core.specs.Keeping.{IsHeldIn}
use Rattle.store_core.proofs.Leading.{Leads}
use Rattle.store_core.proofs.OwnParts.{all_part}

-- ---- a segment that each image holds

module _ (S : List ℕ → Type 0) (s : Store) (stored : Stored) (c : CoreState) (at : IsAt S s stored c) (settled : IsSettled c.tables.slots c.disk) (seg : KindSegment) where
  abbrev seg_key : List ℕ
  seg_key = segment_key seg.kind seg.segment

  -- what the content holds each image holds
  held_in : HasKey at.index seg_key → HasNewest s.held seg_key (pin_of seg).level seg.segment.bytes at.stands.known.0 → IsHeldIn seg c
  held_in has newest =
      let image : List ℕ = at.stands.known.0 in
      let here = at.stands.known.1 in
      let right = (at.stands.each image (c.disk.as_read image here)).holds.right in
      record {
        indexed = λ index is. subst (λ (m : PlaceMap). HasKey m seg_key) (some_same at.index index (sym at.index_known ∙ is)) has;
        newest = λ t represents. record {
          known = at.stands.known;
          each = λ left leaves.
              let same = subst (λ (n : ℕ). SameBefore (slot_at n) image left) at.represents.slots_are (settled image here left leaves) in
              same_copies s t at.index left (at.represents.index_is_newest at.index at.index_known) (represents.index_is_newest at.index at.index_known) seg_key (pin_of seg).level
              seg.segment.bytes has
              (newest_framed s image left right same.before seg_key (pin_of seg).level seg.segment.bytes newest);
        };
      }

-- ---- a step of a collection

abbrev pub gc_event : ℕ → Result Answer Refusal → List ℕ → FileEvent
gc_event actor answer buf = record { event = record { actor = actor; step = asked.GcStep; answer = answer; buf = buf }; bytes = [] }

module _ (S : List ℕ → Type 0) (s : Store) (stored : Stored) (old new : CoreState) (asker : ℕ) (answer : Result Answer Refusal) (buf : List ℕ) (at : IsAt S s stored old)
    (leads : Leads S s (gc_event asker answer buf) stored old new)
    (settled : IsSettled new.tables.slots new.disk) where
  abbrev image : List ℕ
  image = at.stands.known.0

  abbrev here : old.disk.content ≡ Some image
  here = at.stands.known.1

  holds : IsStoreOf s stored.files image
  holds = (at.stands.each image (old.disk.as_read image here)).holds

  abbrev then : IsAt S leads.next.store stored new
  then = leads.next.is_at

  abbrev after : List ℕ
  after = then.stands.known.0

  abbrev told : new.disk.content ≡ Some after
  told = then.stands.known.1

  -- a segment whose key is needed
  pub needed_held : (seg : KindSegment) → IsNeeded s old.parts image (segment_key seg.kind seg.segment) → IsHeldIn seg old → IsHeldIn seg new
  needed_held seg needed held =
      let key : List ℕ = segment_key seg.kind seg.segment in
      let has : HasKey at.index key = held.indexed at.index at.index_known in
      held_in S leads.next.store stored new then settled seg (leads.keys key image here needed at.index then.index at.index_known then.index_known has)
      (leads.copies key image after here told needed at.index at.index_known has (pin_of seg).level seg.segment.bytes
      ((held.newest s at.represents).each image (old.disk.as_read image here)))

  module _ (actor : ℕ) (below : actor < ACTORS) where
    part_held : HoldsPart (HasKey at.index) s.held image (part_of old.parts actor)
    part_held = all_part (HoldsPart (HasKey at.index) s.held image) old.parts actor tt (at.invariant image here).pins_are_closed

    held_as : (core : core_part.Part) → part_of old.parts actor ≡ core → HoldsPart (HasKey at.index) s.held image core
    held_as core is = subst (HoldsPart (HasKey at.index) s.held image) is part_held

    -- ---- a file that is given

    pub pin_needed : (pins : PinMap) (key : List ℕ) (pin : Pin) → part_of old.parts actor ≡ core_parts.Writing pins → finite.get pins key ≡ Some pin →
        IsNeeded s old.parts image key
    pin_needed pins key pin is found =
        let whole = pinned_whole at.index s stored.files image holds pins (held_as (core_parts.Writing pins) is) key pin found in
        let top = root_there whole.whole key whole.root_is in
        record {
          root = key;
          is_root = inr (actor, (below, subst (λ (part : core_part.Part). IsPartKey part key) (sym is) (pin, found)));
          tree = whole.whole;
          right = whole.right;
          is_held = whole.is_held.tree_is_held;
          root_is = whole.root_is;
          within = subst (Contains (tree_keys whole.whole)) (sym top.1) top.2;
        }
