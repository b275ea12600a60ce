-- A segment that is claimed, beside the store that the content stands for.
use Rattle.ingest_steps.proofs.Prelude.{◌≡◌, ℕ, ◌<◌, List, length, Option, Some, None, Result, Ok, Err, OnErr, sym, ◌∙◌, ap, subst, arith, IfSome, eqb-true, sha256, DiskView, Shows, shown_content, Why, Kind, Leaf, Tree, Place, PlaceMap, KnownMap, Segment, KindSegment, segment_key, contents_in, Part, Writing, part_of, with_part, apart, PinMap, IsPin, Pin, IsStepSegment, IsOfKind, pin_of, children_of, Refusal, WrongPart, Unpinned, HasNoCollisions, IsIn, Stands, Files, Store, AreHeaders, Copy, HasKey, IsPartialIndexOf, AnyKey, FitsHeld, HasNewest, bytes_at, some_same, headers_of_right, ArePinsOf, HoldsPart, MayClaim, MayNotClaim, IsClaimRefusal, key_of_seg}
use Rattle.std.specs.FinMap as finite
use Rattle.base_model.specs.Bytes.{key_of}
use Rattle.container_meta.specs.Format.{kind_byte}
use Rattle.segment_index.specs.Places.{IsPlace}
use Rattle.actor_parts.specs.declared.part.Part.TheVariants.{Idle}
use Rattle.actor_parts.specs.Segments.{IsNodeSegment, first_unpinned}
use Rattle.store_model.specs.Collisions.{IsAmong}
use Rattle.store_model.specs.Trees.{IsNodeOf}
use Rattle.store_model.proofs.HeldSlots.{HasLevel, IsNodeEntry, levels_so, newest_so, nodes_so}
use Rattle.store_model.proofs.Lookups.{finds}
use Rattle.store_model.proofs.OneNode.{one_level}
use Rattle.store_model.proofs.SealedTrees.{newest_by_fit}
use Rattle.store_state.specs.Comparing.{FitsBytes, FitsHad}
use Rattle.ingest_steps.specs.declared.claiming.Claimed.{Claimed}
use Rattle.ingest_steps.specs.declared.claiming.Claimed.TheVariants.{Held, Absent}
use Rattle.ingest_steps.specs.Claiming.{WasHeld, IsLookedUp, IsClaimed, KeepsPart}
use Rattle.ingest_steps.proofs.Pinned.{all_pinned, pins_with, pin_right}

-- ---- the newest copy of a segment that is held

-- the bytes of a segment of a tree are a node of its level
pub node_of : (s : Segment) → IsNodeSegment s → IsNodeOf s.level s.bytes
node_of s right = record { node = contents_in s.bytes; right = right.bytes.node; level_is = sym right.level; spelled = right.bytes.spelled }

module _ (S : List ℕ → Type 0) (store : Store) (files : Files) (image : List ℕ) (stands : Stands S store files image) (places : PlaceMap)
    (index : IsPartialIndexOf store.held places) where
  headers : AreHeaders store.held
  headers = headers_of_right image store stands.holds.right

  -- of data: where there are no collisions it is the data
  leaf_newest : HasNoCollisions S → (s : Segment) (place : Place) → S s.bytes → finite.get places (segment_key Leaf s) ≡ Some place → place.length ≡ length s.bytes
      → HasNewest store.held (segment_key Leaf s) 0 s.bytes image
  leaf_newest distinct s place among found long =
      let copy = finds store places (segment_key Leaf s) place index found in
      let fits : FitsHeld AnyKey Leaf store image s =
      λ c counts is. ap (λ (x : Copy). x.place.length) (some_same c copy.0 (sym is ∙ copy.1)) ∙ ap (λ (p : Place). p.length) copy.2 ∙ long in
      let old = newest_so HasLevel store.held Leaf (sha256 s.bytes) image copy.0 (levels_so 0 store.held image headers) copy.1 in
      record {
        copy = copy.0;
        copy_is = copy.1;
        level_is = old.level_is ∙ eqb-true old.entry.level 0 old.so;
        bytes_are = newest_by_fit S AnyKey Leaf store files image image distinct stands s (record { of_kind = tt; among = among }) fits copy.0 tt copy.1;
      }

  -- of a node: the bytes that were read are the node's, and so is the level
  node_newest : (s : Segment) (place : Place) → IsNodeSegment s → finite.get places (segment_key Tree s) ≡ Some place → bytes_at place image ≡ s.bytes
      → HasNewest store.held (segment_key Tree s) s.level s.bytes image
  node_newest s place right found same =
      let copy = finds store places (segment_key Tree s) place index found in
      let bytes : bytes_at copy.0.place image ≡ s.bytes = ap (λ (p : Place). bytes_at p image) copy.2 ∙ same in
      let old = newest_so IsNodeEntry store.held Tree (sha256 s.bytes) image copy.0 (nodes_so 0 store.held image stands.holds.nodes) copy.1 in
      record {
        copy = copy.0;
        copy_is = copy.1;
        level_is = old.level_is ∙ sym (one_level s.level old.entry.level s.bytes (bytes_at copy.0.place image) (node_of s right) old.so (sym bytes));
        bytes_are = bytes;
      }

  -- the actor's pins with that of the segment
  pub pins_claimed : HasNoCollisions S → (kind : Kind) (s : Segment) (place : Place) (pins : PinMap) → IsOfKind kind s → IsAmong S kind s.bytes
      → finite.get places (segment_key kind s) ≡ Some place → place.length ≡ length s.bytes → FitsBytes kind s.bytes place image
      → first_unpinned (record { kind = kind; segment = s }) pins ≡ None → ArePinsOf (HasKey places) store.held image pins
      → ArePinsOf (HasKey places) store.held image (finite.insert pins (segment_key kind s) (pin_of (record { kind = kind; segment = s })))
  pins_claimed distinct Leaf s place pins right among found long fits none are =
      pins_with (HasKey places) store.held image pins (record { kind = Leaf; segment = record { level = 0; bytes = s.bytes } }) are tt
      (leaf_newest distinct s place among found long) (place, found) tt
  pins_claimed distinct Tree s place pins right among found long fits none are =
      pins_with (HasKey places) store.held image pins (record { kind = Tree; segment = s }) are right (node_newest s place right found fits) (place, found)
      (all_pinned pins (children_of (record { kind = Tree; segment = s })) none)

-- ---- what a look-up says

module _ (size : ℕ) (known : Option PlaceMap) (seg : KindSegment) (old new : DiskView) (kind : Kind) (digest offered : List ℕ) (had : Option Place) (place : Place)
    (kind_is : kind ≡ seg.kind) (digest_is : digest ≡ sha256 seg.segment.bytes) (offered_is : offered ≡ seg.segment.bytes) (had_is : had ≡ Some place) where
  key_is : key_of_seg seg ≡ key_of (kind_byte kind) digest
  key_is = sym (ap (λ (k : Kind). key_of (kind_byte k) digest) kind_is ∙ ap (key_of (kind_byte seg.kind)) digest_is)

  pub was_held : IfSome had (IsPlace size) → KnownMap known (λ m. had ≡ finite.get m (key_of (kind_byte kind) digest)) → IfSome had (λ p. p.length ≡ length offered)
      → Shows old new (FitsHad kind offered had) → WasHeld size known seg (Shows old new)
  was_held lies found long fits = record {
    place = place;
    found = λ m is. ap (finite.get m) key_is ∙ sym (found m is) ∙ had_is;
    lies = subst (λ (o : Option Place). IfSome o (IsPlace size)) had_is lies;
    length_is = subst (λ (o : Option Place). IfSome o (λ p. p.length ≡ length offered)) had_is long ∙ ap length offered_is;
    same = subst (λ (b : List ℕ). Shows old new (FitsBytes seg.kind b place)) offered_is
        (subst (λ (k : Kind). Shows old new (FitsBytes k offered place)) kind_is (subst (λ (o : Option Place). Shows old new (FitsHad kind offered o)) had_is fits));
  }

held_by : (size : ℕ) (known : Option PlaceMap) (seg : KindSegment) (shown : (List ℕ → Type 0) → Type 0) (claim : Claimed) → claim ≡ Held → IsLookedUp size known seg shown claim
    → WasHeld size known seg shown
held_by size known seg shown Held is looked_up = looked_up
held_by size known seg shown Absent is looked_up = absurd cc

-- it may be kept
pub pin_held : (size : ℕ) (known : Option PlaceMap) (seg : KindSegment) (shown : (List ℕ → Type 0) → Type 0) (claim : Claimed) (pin : Pin) → claim ≡ Held
    → IsLookedUp size known seg shown claim → IsStepSegment seg → pin ≡ pin_of seg → IsPin pin
pin_held size known seg shown claim pin is looked_up step pin_is =
    let was = held_by size known seg shown claim is looked_up in
    subst IsPin (sym pin_is) (pin_right seg.kind seg.segment step (omega (arith, was.lies.not_empty, was.length_is)) (omega (arith, was.lies.length_is, was.length_is)))

-- ---- the part

pub on_err : {T E : Type 0} (result : Result T E) (P : Type 0) → P → OnErr result P
on_err (Ok x) P holds = tt
on_err (Err e) P holds = holds

pub same_pins : (a b : PinMap) → Writing a ≡ Writing b → a ≡ b
same_pins a b is = cc

-- a part that was taken is given another
pub set_after : (parts taken new : List Part) (actor : ℕ) (part : Part) → taken ≡ with_part parts actor Idle → new ≡ with_part taken actor part → new ≡ with_part parts actor part
set_after parts taken new actor part left set =
    set ∙ ap (λ (p : List Part). with_part p actor part) left ∙ apart.replaced parts actor Idle part

-- or is given back
pub taken_back : (parts taken new : List Part) (actor : ℕ) (part : Part) → taken ≡ with_part parts actor Idle → new ≡ with_part taken actor part → part ≡ part_of parts actor
    → new ≡ parts
taken_back parts taken new actor part left set is =
    set_after parts taken new actor part left set ∙ ap (with_part parts actor) is ∙ apart.unchanged parts actor

module _ (parts new : List Part) (actor : ℕ) (seg : KindSegment) (key : List ℕ) (pin : Pin) (key_is : key ≡ key_of_seg seg) (pin_is : pin ≡ pin_of seg)
    (pinned : (pins : PinMap) → part_of parts actor ≡ Writing pins → new ≡ with_part parts actor (Writing (finite.insert pins key pin))) where
  pub parts_claimed : (pins : PinMap) → part_of parts actor ≡ Writing pins → new ≡ with_part parts actor (Writing (finite.insert pins (key_of_seg seg) (pin_of seg)))
  parts_claimed pins writing =
      pinned pins writing
      ∙ ap (λ (k : List ℕ). with_part parts actor (Writing (finite.insert pins k pin))) key_is
      ∙ ap (λ (p : Pin). with_part parts actor (Writing (finite.insert pins (key_of_seg seg) p))) pin_is

  pub is_claimed : (size : ℕ) (known : Option PlaceMap) (shown : (List ℕ → Type 0) → Type 0) (claim : Claimed) → claim ≡ Held → MayClaim (part_of parts actor) seg
      → IsLookedUp size known seg shown claim → IsClaimed size known parts actor seg shown new claim
  is_claimed size known shown Held is may looked_up = record { may = may; looked_up = looked_up; parts_are = parts_claimed may.pins may.writing }
  is_claimed size known shown Absent is may looked_up = absurd cc

  -- what the actor kept is right still, and so is the segment
  pub keeps_claimed : (size : ℕ) (known : Option PlaceMap) (old after : DiskView) (claim : Claimed) → claim ≡ Held → actor < length parts → IsStepSegment seg
      → MayClaim (part_of parts actor) seg → IsLookedUp size known seg (Shows old after) claim → KeepsPart old.content known parts actor seg new
  keeps_claimed size known old after claim is there step may looked_up = λ among store files image places content known_is index stands distinct in_set holds.
      let was = held_by size known seg (Shows old after) claim is looked_up in
      let pins : PinMap = may.pins in
      let each = pins_claimed (IsIn among) store files image stands places index distinct seg.kind seg.segment was.place pins step in_set (was.found places known_is) was.length_is
      (shown_content old after (FitsBytes seg.kind seg.segment.bytes was.place) image was.same content) may.pinned in
      subst (λ (p : List Part). HoldsPart (HasKey places) store.held image (part_of p actor)) (sym (parts_claimed pins may.writing))
      (subst (HoldsPart (HasKey places) store.held image) (sym (apart.same parts actor (Writing (finite.insert pins (key_of_seg seg) (pin_of seg))) there))
      (each (subst (HoldsPart (HasKey places) store.held image) may.writing holds)))

-- ---- refusals

pub of_part : (part : Part) (seg : KindSegment) (damaged : ℕ → Why → Type 0) (other : Refusal → Type 0) (refusal : Refusal) → MayNotClaim part seg refusal
    → IsClaimRefusal part seg damaged other refusal
of_part part seg damaged other (WrongPart kind) has = has
of_part part seg damaged other (Unpinned key) has = has
of_part part seg damaged other refusal has = absurd has
