-- What holds of a sweep by the store holds once a source was copied; each live key keeps its place, and the index has no new one.
use Rattle.gc_sweep.proofs.Prelude.{IsLive, ◌≡◌, inl, inr, ℕ, ◌<◌, ◌≤◌, true, false, List, [], length, drop, get_or, Option, Some, None, refl, sym, ◌∙◌, ap, subst, arith, nat_eq, AllByRecursion, eq-eqb, eqb-true, Contains-append_left, apart_from_distinct, Kind, Place, PlaceMap, Contents, has_key, HeaderValue, Plan, PlansBy, without_keys, IsPlan, planned, source_of, Shows, DiskView, shown_content, LiveKeys, DifferentIds, HoldSlots, HoldsSlot, IsPartialIndexOf, HasNewest, RepresentsSlots, SlotTable, CopyNext, Sweep, CopiesSource, GoesOn, TakesBy, AreCopied, HoldsSweep, IsCopied, IsHalfCopied, IsOrigin, HasNoEntryIn, HasNext, IsSweeping, entry_in, sources_before}
use Rattle.std.specs.FinMap as finite
use Rattle.std.specs.List.{Contains}
use Rattle.copy_forward.specs.Copying.{Forgets}
use Rattle.gc_sweep.specs.Holding.{HasOnlyIn}
use Rattle.gc_sweep.proofs.Copied.{adds_few}
use Rattle.gc_sweep.proofs.Holds.{holds_on_disk, no_key}
use Rattle.gc_sweep.proofs.InSlots.{one_header, one_slot, stands_in}
use Rattle.gc_sweep.proofs.PlannedKeys.{all_copied, filled_new, filled_on, keys_stay, passed_copied, places_were, slot_copied}
use Rattle.gc_sweep.proofs.SourceEnds.{Ends, ends_by}
use Rattle.gc_sweep.proofs.SourceRead.{IsReadOf, at_copy_next, not_other, read_of}
use Rattle.gc_sweep.specs.Copying.{copy_step}

-- A step that copied leaves the sweep so, by the map that the index has then: each live key is where it was, and no key is where none was.
pub record LeavesHeld (index : PlaceMap) (held : List (Option HeaderValue)) (image : List ℕ) (live : LiveKeys) (snapshot : ℕ) (known : Option PlaceMap) (s : Sweep) : Type 0 where
  pub later : PlaceMap
  pub known_is : known ≡ Some later
  pub sweep_holds : HoldsSweep later held image live snapshot s
  pub stay : (key : List ℕ) → IsLive index live key → finite.get later key ≡ finite.get index key
  pub were : (key : List ℕ) (place : Place) → finite.get later key ≡ Some place → finite.get index key ≡ Some place
  pub partial : IsPartialIndexOf held later

-- and so it does where the disk changed beside its newest copies
pub leaves_on_disk : (index : PlaceMap) (held : List (Option HeaderValue)) (image now : List ℕ) (live : LiveKeys) (snapshot : ℕ) (known : Option PlaceMap) (s : Sweep)
    → ((key : List ℕ) (level : ℕ) (bytes : List ℕ) → HasNewest held key level bytes image → HasNewest held key level bytes now)
    → LeavesHeld index held image live snapshot known s → LeavesHeld index held now live snapshot known s
leaves_on_disk index held image now live snapshot known s keeps leaves = record {
  later = leaves.later;
  known_is = leaves.known_is;
  sweep_holds = holds_on_disk leaves.later held image now live snapshot s keeps leaves.sweep_holds;
  stay = leaves.stay;
  were = leaves.were;
  partial = leaves.partial;
}

-- ---- a source that was copied

module _ (t : SlotTable) (index : PlaceMap) (held : List (Option HeaderValue)) (image : List ℕ) (live : LiveKeys) (snapshot source entry : ℕ) (s s' : Sweep)
    (known_now : Option PlaceMap) (old new : DiskView)
    (slots : RepresentsSlots held t) (differ : DifferentIds held) (stand : HoldSlots 0 held image) (partial : IsPartialIndexOf held index) (content : old.content ≡ Some image)
    (under : IsSweeping t snapshot s)
    (stage : s.next ≡ CopyNext source entry) (holds : HoldsSweep index held image live snapshot s) where
  at : HasNext t s (CopyNext source entry)
  at = at_copy_next t index held image live snapshot source entry s slots differ stand under stage holds

  before_is : sources_before s s.next ≡ source
  before_is = ap (sources_before s) stage

  module _ (slot : ℕ) (kind : Kind) (filling : Contents) (h : HeaderValue) (read : IsReadOf index held snapshot source entry s slot kind filling h) (plan : Plan)
      (is : IsPlan (source_of (Some index) live slot h.kind) (Shows old new) h.entries entry filling plan) (others : GoesOn s s') (buffer_is : s'.buffer ≡ plan.buffer)
      (ends : Ends held snapshot source slot h plan s s') where
    abbrev later : PlaceMap
    later = without_keys plan.dead.items index

    were : (key : List ℕ) (place : Place) → finite.get later key ≡ Some place → finite.get index key ≡ Some place
    were = places_were index held image live snapshot source entry s slot kind filling h partial read old new content plan is

    filled : (key : List ℕ) → has_key s'.buffer key ≡ has_key plan.buffer key
    filled key = ap (λ (c : Contents). has_key c key) buffer_is

    on : (key : List ℕ) → has_key s.buffer key ≡ true → has_key s'.buffer key ≡ true
    on key has = filled key ∙ filled_on index held image live snapshot source entry s slot kind filling h partial read old new content plan is key has

    -- a key that was filled before lies elsewhere
    not_waiting : Contains s.waiting.items slot → ⊥
    not_waiting there =
        let stands = stands_in held t snapshot s under slots slot (Contains-append_left s.waiting.items s.ready.items slot there) in
        let same : get_or s.sources.items stands.number 0 ≡ get_or s.sources.items source 0 =
        sym stands.id_is ∙ ap (λ (g : HeaderValue). g.id) (one_header held slot slot stands.header h refl stands.there read.there) ∙ read.id_is in
        let apart = apart_from_distinct nat_eq s.sources.items stands.number source 0 under.once (omega (arith, stands.below, before_is)) at.0 in
        let wrong : true ≡ false = sym (eq-eqb (get_or s.sources.items stands.number 0) (get_or s.sources.items source 0) same) ∙ apart in cc

    elsewhere : (key : List ℕ) → has_key s.buffer key ≡ true → IsOrigin held snapshot s slot → ⊥
    elsewhere key has (inl waits) = not_waiting waits
    elsewhere key has (inr (inl (g, half))) = no_key s.buffer key (at.2 (omega (arith, half.some, ap entry_in stage))) has
    elsewhere key has (inr (inr (g, (there, new)))) = omega (arith, ap (λ (x : HeaderValue). x.id) (one_header held slot slot g h refl there read.there), new, read.old)

    origin_on : (key : List ℕ) (x : ℕ) → has_key s.buffer key ≡ true → IsOrigin held snapshot s x → IsOrigin held snapshot s' x
    origin_on key x has (inl waits) = inl (ends.waits_on x waits)
    origin_on key x has (inr (inl (g, half))) = absurd (no_key s.buffer key (at.2 (omega (arith, half.some, ap entry_in stage))) has)
    origin_on key x has (inr (inr new)) = inr (inr new)

    origin_now : (key : List ℕ) (place : Place) → has_key s'.buffer key ≡ true → finite.get later key ≡ Some place → IsOrigin held snapshot s' place.slot
    origin_now key place has found =
        let was = were key place found in
        elim (filled_new index held image live snapshot source entry s slot kind filling h partial read old new content plan is key place was (sym (filled key) ∙ has)) [
          | inl before ↦ origin_on key place.slot before (holds.origin key place before was)
          | inr added ↦ subst (IsOrigin held snapshot s') (sym added.0) (ends.origin added.1)
        ]

    -- what the index has in a source that waits was copied
    in_slot : length h.entries ≤ plan.next → (key : List ℕ) (place : Place) → finite.get later key ≡ Some place → place.slot ≡ slot → has_key plan.buffer key ≡ true
    in_slot = slot_copied index held image live snapshot source entry s slot kind filling h partial read old new content plan is

    waiting_now : (x : ℕ) → Contains s'.waiting.items x → HasOnlyIn (has_key s'.buffer) later x
    waiting_now x there key place found here = elim (ends.waits x there) [
      | inl before ↦ on key (holds.waiting x before key place (were key place found) here)
      | inr (same, most) ↦ filled key ∙ in_slot most key place found (here ∙ same)
    ]

    -- and of one that is ready it has nothing
    ready_now_empty : (x : ℕ) → Contains s'.ready.items x → HasNoEntryIn later x
    ready_now_empty x there key place found here =
        let end = ends.is_ready x there in
        let was = were key place found in
        elim (filled_new index held image live snapshot source entry s slot kind filling h partial read old new content plan is key place was
        (in_slot end.1 key place found (here ∙ end.0))) [
          | inl before ↦ elsewhere key before (subst (IsOrigin held snapshot s) (here ∙ end.0) (holds.origin key place before was))
          | inr added ↦ omega (arith, added.1, end.2)
        ]

    half_now : (x : ℕ) (g : HeaderValue) → IsHalfCopied held s' x g → (entry_in s'.next ≤ length g.entries) × AreCopied (has_key s'.buffer) later x g (entry_in s'.next)
    half_now x g half =
        let so = ends.half x g half in
        let slot_is : x ≡ slot = one_slot held x slot g h differ half.there read.there so.0 in
        let header_is : g ≡ h = one_header held x slot g h slot_is half.there read.there in
        let all : AreCopied
        (has_key plan.buffer) later slot h plan.next = passed_copied index held image live snapshot source entry s slot kind filling h partial read old new content plan is in (
          omega (arith, so.1, is.within, ap (λ (y : HeaderValue). length y.entries) header_is),
          subst (λ (n : ℕ). AreCopied (has_key s'.buffer) later x g n) (sym so.1)
              (subst (λ (y : HeaderValue). AreCopied (has_key s'.buffer) later x y plan.next) (sym header_is)
              (subst (λ (y : ℕ). AreCopied (has_key s'.buffer) later y h plan.next) (sym slot_is)
              (subst (λ (c : Contents). AreCopied (has_key c) later slot h plan.next) (sym buffer_is) all))),
        )

    held_now : HoldsSweep later held image live snapshot s'
    held_now = record {
      copied = subst (λ (c : Contents). AllByRecursion (IsCopied later live held image c.kind) c.segments) (sym buffer_is)
          (all_copied index held image live snapshot source entry s slot kind filling h partial read old new content plan is holds.copied);
      origin = origin_now;
      waiting = waiting_now;
      ready = ready_now_empty;
      half = half_now;
    }

    leaves : known_now ≡ Some later → LeavesHeld index held image live snapshot known_now s'
    leaves known_is = record {
      later = later;
      known_is = known_is;
      sweep_holds = held_now;
      stay = keys_stay index held image live snapshot source entry s slot kind filling h partial read old new content plan is;
      were = were;
      partial = λ key place found. partial key place (were key place found);
    }

  pub holds_copied : CopiesSource (copy_step t live (Some index) source entry s) known_now old new s' → LeavesHeld index held image live snapshot known_now s'
  holds_copied copies = by_found copies.found copies.plans.plans copies.forgets copies.takes
    where
      h : HeaderValue
      h = copies.plans.header

      shown : HoldsSlot image copies.slot (Some h)
      shown = shown_content old new (λ (i : List ℕ). HoldsSlot i copies.slot (Some h)) image copies.plans.shown content

      read : IsReadOf index held snapshot source entry s copies.slot copies.kind copies.filling h
      read = read_of t index held image live snapshot source entry s slots differ stand under stage holds copies.slot copies.kind copies.filling copies.is_source h shown

      by_found : (found : Option Plan) → PlansBy (source_of (Some index) live copies.slot h.kind) (Shows old new) h entry copies.filling found
          → Forgets (Some index) known_now found
          → TakesBy t copies.slot source found s s' → LeavesHeld index held image live snapshot known_now s'
      by_found None other forgets takes =
          absurd (not_other t index held image live snapshot source entry s slots differ stand under stage holds copies.slot copies.kind copies.filling copies.is_source h shown
          other)
      by_found (Some plan) (kind_is, is) forgets takes =
          leaves copies.slot copies.kind copies.filling h read plan is copies.others takes.0
          (ends_by t index held snapshot source entry copies.slot copies.kind copies.filling h s s' at.0 read copies.others plan takes.0 least plan.ended most takes.2)
          (forgets.0 index refl)
        where
          most : plan.ended ≡ true → length h.entries ≤ plan.next
          most ended = let same : plan.next ≡ length h.entries = eqb-true plan.next (length h.entries) (sym is.ended_is ∙ ended) in omega (arith, same)

          least : 0 < plan.copied → 0 < plan.next
          least some =
              omega (
                arith,
                some,
                is.copied_is,
                is.next_is,
                adds_few (source_of (Some index) live copies.slot h.kind) (Shows old new) (drop entry h.entries) (planned copies.filling [])
                    (planned plan.buffer plan.dead.items) is.passed is.takes,
              )
