-- What each step of a collection does to what is filled, over a disk that tells its content.
use Rattle.gc_steps.proofs.Prelude.{◌≡◌, ◌⊎◌, inl, inr, ℕ, ◌<◌, true, List, [], ◌∷◌, map, Option, Some, None, refl, sym, ◌∙◌, ap, subst, slice_get, AllByRecursion, Kind, Place, PlaceMap, Segment, has_key, segment_key, HeaderValue, PlansBy, Plan, source_of, Shows, DiskView, shown_content, LiveKeys, DifferentIds, HoldSlots, HoldsSlot, IsPartialIndexOf, RepresentsSlots, SlotTable, Tables, Next, CopyNext, Flush, Release, End, SweepValue, CopiesSource, TakesBy, HoldsSweep, IsCopied, IsLive, IsSweeping, no_key, LeavesHeld, holds_copied, listed_so, filled_new, IsReadOf, not_other, read_of, Collection, Stage, Mark, Filter, Select, StepsTo, moment, HoldsAt, IsUnderWay}
use Rattle.std.specs.FinMap as finite
use Rattle.container_meta.specs.Segments.{Contents, keys_of}
use Rattle.gc_sweep.specs.Copying.{copy_step}
use Rattle.gc_steps.specs.declared.collection.Stage.TheVariants.{Sweep}
use Rattle.gc_steps.proofs.UnderWay.{at_stage}

-- the index has the key's copy in a container that was there when the collection began
abbrev pub LiesOld : PlaceMap → List (Option HeaderValue) → ℕ → List ℕ → Type 0
LiesOld index held snapshot key =
    (place : Place) × ((finite.get index key ≡ Some place) × ((h : HeaderValue) × ((slice_get held place.slot ≡ Some (Some h)) × (h.id < snapshot))))

-- ---- a source is copied

pub keys_so : (P : List ℕ → Type 0) (kind : Kind) (xs : List Segment) → AllByRecursion (λ x. P (segment_key kind x)) xs → AllByRecursion P (map (segment_key kind) xs)
keys_so P kind [] all = tt
keys_so P kind (x ∷ xs) all = (all.0, keys_so P kind xs all.1)

pub live_so : (index : PlaceMap) (live : LiveKeys) (held : List (Option HeaderValue)) (image : List ℕ) (kind : Kind) (xs : List Segment)
    → AllByRecursion (IsCopied index live held image kind) xs
    → AllByRecursion (λ x. IsLive index live (segment_key kind x)) xs
live_so index live held image kind [] all = tt
live_so index live held image kind (x ∷ xs) all = (all.0.is_live, live_so index live held image kind xs all.1)

module _ (t : SlotTable) (index : PlaceMap) (held : List (Option HeaderValue)) (image : List ℕ) (live : LiveKeys) (snapshot source entry : ℕ) (s s' : SweepValue)
    (known_now : Option PlaceMap) (old new : DiskView)
    (slots : RepresentsSlots held t) (differ : DifferentIds held) (stand : HoldSlots 0 held image) (partial : IsPartialIndexOf held index) (content : old.content ≡ Some image)
    (under : IsSweeping t snapshot s)
    (stage : s.next ≡ CopyNext source entry) (holds : HoldsSweep index held image live snapshot s)
    (copies : CopiesSource (copy_step t live (Some index) source entry s) known_now old new s') where
  abbrev h : HeaderValue
  h = copies.plans.header

  shown : HoldsSlot image copies.slot (Some h)
  shown = shown_content old new (λ (i : List ℕ). HoldsSlot i copies.slot (Some h)) image copies.plans.shown content

  read : IsReadOf index held snapshot source entry s copies.slot copies.kind copies.filling h
  read = read_of t index held image live snapshot source entry s slots differ stand under stage holds copies.slot copies.kind copies.filling copies.is_source h shown

  left : LeavesHeld index held image live snapshot known_now s'
  left = holds_copied t index held image live snapshot source entry s s' known_now old new slots differ stand partial content under stage holds copies

  -- a key that is filled then was before, or had its copy in that source
  copied_new : (key : List ℕ) → has_key s'.buffer key ≡ true → (has_key s.buffer key ≡ true) ⊎ LiesOld index held snapshot key
  copied_new key has = by_found copies.found copies.plans.plans copies.takes
    where
      is_live : IsLive left.later live key
      is_live =
          listed_so (IsLive left.later live) (keys_of s'.buffer) key
          (keys_so (IsLive left.later live) s'.buffer.kind s'.buffer.segments (live_so left.later live held image s'.buffer.kind s'.buffer.segments left.sweep_holds.copied)) has

      was : finite.get index key ≡ Some is_live.0
      was = left.were key is_live.0 is_live.1.0

      by_found : (found : Option Plan) → PlansBy (source_of (Some index) live copies.slot h.kind) (Shows old new) h entry copies.filling found
          → TakesBy t copies.slot source found s s'
          → (has_key s.buffer key ≡ true) ⊎ LiesOld index held snapshot key
      by_found None other takes =
          absurd (not_other t index held image live snapshot source entry s slots differ stand under stage holds copies.slot copies.kind copies.filling copies.is_source h shown
          other)
      by_found (Some plan) (kind_is, is) takes = elim
          (filled_new index held image live snapshot source entry s copies.slot copies.kind copies.filling h partial read old new content plan is key is_live.0 was
          (sym (ap (λ (c : Contents). has_key c key) takes.0) ∙ has)) [
            | inl before ↦ inl before
            | inr added ↦ inr (is_live.0, (was, (h, (ap (slice_get held) added.0 ∙ read.there, read.old))))
          ]

-- ---- whatever the stage

-- A key that is filled after a step was before, or had its copy in a container that was there when the collection began.
abbrev pub GoesWell : PlaceMap → List (Option HeaderValue) → Collection → Collection → Type 0
GoesWell index held c d = (key : List ℕ) → has_key d.sweep.buffer key ≡ true → (has_key c.sweep.buffer key ≡ true) ⊎ LiesOld index held c.snapshot key

module _ (t u : Tables) (index : PlaceMap) (held : List (Option HeaderValue)) (image : List ℕ) (known : Option PlaceMap) (old new : DiskView) (c d : Collection)
    (slots : RepresentsSlots held t.held) (differ : DifferentIds held)
    (stand : HoldSlots 0 held image) (partial : IsPartialIndexOf held index) (content : old.content ≡ Some image) (under : IsUnderWay t.held c)
    (holds : HoldsAt c.stage index held image c) where
  same_well : d.sweep ≡ c.sweep → GoesWell index held c d
  same_well same key has = inl (ap (λ (s : SweepValue). has_key s.buffer key) (sym same) ∙ has)

  emptied : d.sweep.buffer.segments ≡ [] → GoesWell index held c d
  emptied none key has = absurd (no_key d.sweep.buffer key none has)

  sweeping : c.stage ≡ Sweep → IsSweeping t.held c.snapshot c.sweep
  sweeping is = at_stage t.held c Sweep under is

  held_sweep : c.stage ≡ Sweep → HoldsSweep index held image c.live c.snapshot c.sweep
  held_sweep is = (subst (λ (s : Stage). HoldsAt s index held image c) is holds).1

  by_stage : (stage : Stage) (next : Next) → c.stage ≡ stage → c.sweep.next ≡ next → StepsTo stage next (moment t (Some index) old c) (moment u known new d)
      → GoesWell index held c d
  by_stage (Mark level slot) next is next_is steps = same_well (ap (λ (x : Collection). x.sweep) steps.0.collection_is)
  by_stage (Filter slot) next is next_is steps = same_well (ap (λ (x : Collection). x.sweep) steps.0.collection_is)
  by_stage Select next is next_is steps = emptied steps.0.begins.empty
  by_stage Sweep (CopyNext source entry) is next_is steps =
      copied_new t.held index held image c.live c.snapshot source entry c.sweep d.sweep known old new slots differ stand partial content (sweeping is) next_is
      (held_sweep is) steps.0
  by_stage Sweep (Flush source entry) is next_is steps = emptied steps.flushed.emptied
  by_stage Sweep (Release source entry) is next_is steps = λ key has. inl (ap (λ (b : Contents). has_key b key) (sym steps.0.buffer_is) ∙ has)
  by_stage Sweep End is next_is steps = same_well (ap (λ (x : Collection). x.sweep) steps.0)

  pub goes_well : StepsTo c.stage c.sweep.next (moment t (Some index) old c) (moment u known new d) → GoesWell index held c d
  goes_well steps = by_stage c.stage c.sweep.next refl refl steps
