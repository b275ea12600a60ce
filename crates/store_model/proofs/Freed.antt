-- Slots once one of them is closed, and the image whose gate was cleared.
use Rattle.store_model.proofs.Prelude.{◌≡◌, ◌≢◌, ◌⊎◌, inl, inr, ℕ, zero, suc, ◌+◌, ◌<◌, ◌≤◌, List, [], ◌∷◌, ◌++◌, length, get_or, Option, Some, None, refl, sym, ◌∙◌, ap, subst, arith, slice_get, range, byte_at, SameOutside, byte-range, SLOT_BYTES, slot_at, HeaderValue, with_freed, HasNoGate, SameButGates, Store, Encodes, IsValidFor, HoldsSlot, HoldSlots, AreHeaders, IsUnusedId, DifferentIds, free_slots, ids_of, without_slot}
use Rattle.container_meta.specs.Spelling.{header_size}
use Rattle.std.proofs.Common.{slice_set}
use Rattle.std.proofs.lemmas.List.{ext_get_or}
use Rattle.base_model.proofs.Frames.{byte_before, byte_after}
use Rattle.store_model.proofs.Copies.{some_same}
use Rattle.store_model.proofs.Frames.{slot_kept, slots_kept}
use Rattle.store_model.proofs.FramedTrees.{before_slots, encodes_on}
use Rattle.store_model.proofs.Kept.{other_same}

-- ---- the slots

-- there are as many as before
pub length-without_slot : (slot : ℕ) (held : List (Option HeaderValue)) → length (without_slot slot held) ≡ length held
length-without_slot slot [] = refl
length-without_slot zero (c ∷ cs) = refl
length-without_slot (suc slot) (c ∷ cs) = ap suc (length-without_slot slot cs)

-- the headers are such
pub headers_without : (slot : ℕ) (held : List (Option HeaderValue)) → AreHeaders held → AreHeaders (without_slot slot held)
headers_without slot [] headers = tt
headers_without zero (None ∷ cs) headers = headers
headers_without zero (Some g ∷ cs) headers = headers.1
headers_without (suc slot) (None ∷ cs) headers = headers_without slot cs headers
headers_without (suc slot) (Some g ∷ cs) headers = (headers.0, headers_without slot cs headers.1)

unused_without : (id slot : ℕ) (held : List (Option HeaderValue)) → IsUnusedId id held → IsUnusedId id (without_slot slot held)
unused_without id slot [] unused = tt
unused_without id zero (None ∷ cs) unused = unused
unused_without id zero (Some g ∷ cs) unused = unused.1
unused_without id (suc slot) (None ∷ cs) unused = unused_without id slot cs unused
unused_without id (suc slot) (Some g ∷ cs) unused = (unused.0, unused_without id slot cs unused.1)

-- ids still differ
pub different_without : (slot : ℕ) (held : List (Option HeaderValue)) → DifferentIds held → DifferentIds (without_slot slot held)
different_without slot [] differ = tt
different_without zero (None ∷ cs) differ = differ
different_without zero (Some g ∷ cs) differ = differ.1
different_without (suc slot) (None ∷ cs) differ = different_without slot cs differ
different_without (suc slot) (Some g ∷ cs) differ = (unused_without g.id slot cs differ.0, different_without slot cs differ.1)

-- one slot more is closed
pub free_freed : (slot : ℕ) (h : HeaderValue) (held : List (Option HeaderValue)) → slice_get held slot ≡ Some (Some h) → free_slots (without_slot slot held) ≡ suc (free_slots held)
free_freed slot h [] there = absurd cc
free_freed zero h (None ∷ cs) there = absurd cc
free_freed zero h (Some g ∷ cs) there = refl
free_freed (suc slot) h (None ∷ cs) there = ap suc (free_freed slot h cs there)
free_freed (suc slot) h (Some g ∷ cs) there = free_freed slot h cs there

-- its id is 0
pub ids_freed : (slot : ℕ) (held : List (Option HeaderValue)) → ids_of (without_slot slot held) ≡ slice_set (ids_of held) slot 0
ids_freed slot [] = refl
ids_freed zero (None ∷ cs) = refl
ids_freed zero (Some g ∷ cs) = refl
ids_freed (suc slot) (None ∷ cs) = ap (λ (ids : List ℕ). 0 ∷ ids) (ids_freed slot cs)
ids_freed (suc slot) (Some g ∷ cs) = ap (λ (ids : List ℕ). g.id ∷ ids) (ids_freed slot cs)

-- it is closed
pub closed_there : (slot : ℕ) (c : Option HeaderValue) (held : List (Option HeaderValue)) → slice_get held slot ≡ Some c → slice_get (without_slot slot held) slot ≡ Some None
closed_there slot c [] there = absurd cc
closed_there zero c (d ∷ cs) there = refl
closed_there (suc slot) c (d ∷ cs) there = closed_there slot c cs there

-- each other slot is as it was
pub other_there : (slot other : ℕ) (held : List (Option HeaderValue)) → slot ≢ other → slice_get (without_slot slot held) other ≡ slice_get held other
other_there slot other [] differ = refl
other_there zero zero (c ∷ cs) differ = absurd (differ refl)
other_there zero (suc other) (c ∷ cs) differ = refl
other_there (suc slot) zero (c ∷ cs) differ = refl
other_there (suc slot) (suc other) (c ∷ cs) differ = other_there slot other cs (λ same. differ (ap suc same))

-- one with a container is another slot, and had it before
pub there_before : (slot other : ℕ) (h : HeaderValue) (held : List (Option HeaderValue)) → slice_get (without_slot slot held) other ≡ Some (Some h)
    → (slot ≢ other) × (slice_get held other ≡ Some (Some h))
there_before slot other h [] there = absurd cc
there_before zero zero h (c ∷ cs) there = absurd cc
there_before zero (suc other) h (c ∷ cs) there = (let differ : 0 ≢ suc other = omega arith in differ, there)
there_before (suc slot) zero h (c ∷ cs) there = (let differ : suc slot ≢ 0 = omega arith in differ, there)
there_before (suc slot) (suc other) h (c ∷ cs) there =
    let before = there_before slot other h cs there in
    (let differ : suc slot ≢ suc other = λ same. before.0 (omega (arith, same)) in differ, before.1)

-- what may stand on a disk may, with a slot closed
pub valid_freed : (size slot : ℕ) (s : Store) → IsValidFor size s → IsValidFor size (with_freed slot s)
valid_freed size slot s valid = record {
  count = valid.count;
  size_is = valid.size_is;
  selector_right = valid.selector_right;
  few = valid.few;
  follow = valid.follow;
  many = length-without_slot slot s.held ∙ valid.many;
  headers = headers_without slot s.held valid.headers;
  different = different_without slot s.held valid.different;
}

-- ---- the image, where the gate of one slot alone may have changed

-- all outside of the slot is as it was
pub gate_in_slot : (slot : ℕ) (old new : List ℕ) → SameOutside (slot_at slot) 1 old new → SameOutside (slot_at slot) SLOT_BYTES old new
gate_in_slot slot old new same = record { size = same.size; before = same.before; after = λ p n past. same.after p n (omega (arith, past)) }

module _ (slot : ℕ) (old new : List ℕ) (same : SameOutside (slot_at slot) SLOT_BYTES old new) where
  -- the slot is closed now
  holds_without : (from index : ℕ) (held : List (Option HeaderValue)) → slot ≡ from + index → HoldsSlot new slot None → HoldSlots from held old
      → HoldSlots from (without_slot index held) new
  holds_without from index [] place here holds = tt
  holds_without from zero (c ∷ cs) place here holds = (
    subst (λ (s : ℕ). HoldsSlot new s None) (place ∙ omega arith) here,
    slots_kept old new (from + 1) cs (λ other above below. other_same slot other old new same (omega (arith, place, above))) holds.1,
  )
  holds_without from (suc index) (c ∷ cs) place here holds =
      (slot_kept from old new (other_same slot from old new same (omega (arith, place))) c holds.0, holds_without (from + 1) index cs (omega (arith, place)) here holds.1)

-- closed, it is the store with the slot closed
pub encodes_freed : (slot : ℕ) (h : HeaderValue) (s : Store) (old new : List ℕ) → Encodes old s → slice_get s.held slot ≡ Some (Some h) → SameOutside (slot_at slot) 1 old new
    → HoldsSlot new slot None → Encodes new (with_freed slot s)
encodes_freed slot h s old new right there same closed =
    let outside = gate_in_slot slot old new same in
    encodes_on s old new (before_slots slot old new outside) same.size (without_slot slot s.held) right (length-without_slot slot s.held)
    (holds_without slot old new outside 0 slot s.held (omega arith) closed right.slots_are) (different_without slot s.held right.different)

-- what a slot holds
pub slot_from : (from index : ℕ) (held : List (Option HeaderValue)) (c : Option HeaderValue) (image : List ℕ) → HoldSlots from held image → slice_get held index ≡ Some c →
    HoldsSlot image (from + index) c
slot_from from index [] c image holds there = absurd cc
slot_from from zero (d ∷ held) c image holds there =
    subst (λ (s : ℕ). HoldsSlot image s c) (omega arith) (subst (λ (x : Option HeaderValue). HoldsSlot image from x) (some_same d c there) holds.0)
slot_from from (suc index) (d ∷ held) c image holds there =
    subst (λ (s : ℕ). HoldsSlot image s c) (omega arith) (slot_from (from + 1) index held c image holds.1 there)

pub slot_held : (slot : ℕ) (held : List (Option HeaderValue)) (c : Option HeaderValue) (image : List ℕ) → HoldSlots 0 held image → slice_get held slot ≡ Some c →
    HoldsSlot image slot c
slot_held slot held c image holds there = subst (λ (s : ℕ). HoldsSlot image s c) (omega arith) (slot_from 0 slot held c image holds there)

-- the first byte of a part
first_is : (at count : ℕ) (old new : List ℕ) → 1 ≤ count → range at count new ≡ range at count old → byte_at at new ≡ byte_at at old
first_is at count old new some same =
    let place : at + 0 ≡ at = omega arith in
    ap (λ (k : ℕ). byte_at k new) (sym place) ∙ sym (byte-range 0 at count new (omega (arith, some))) ∙ ap (byte_at 0) same
    ∙ byte-range 0 at count old (omega (arith, some)) ∙ ap (λ (k : ℕ). byte_at k old) place

-- where a slot has its header still, the image is as it was
pub unfreed_same : (slot : ℕ) (h : HeaderValue) (old new : List ℕ) → SameOutside (slot_at slot) 1 old new → HoldsSlot old slot (Some h) → HoldsSlot new slot (Some h) → new ≡ old
unfreed_same slot h old new same before after =
    ext_get_or 0 new old same.size (λ i below. by_place i (place_of i))
  where
    place_of : (i : ℕ) → (i < slot_at slot) ⊎ ((slot_at slot + 1 ≤ i) ⊎ (i ≡ slot_at slot))
    place_of i = grind (arith)

    by_place : (i : ℕ) → (i < slot_at slot) ⊎ ((slot_at slot + 1 ≤ i) ⊎ (i ≡ slot_at slot)) → get_or new i 0 ≡ get_or old i 0
    by_place i (inl below) = byte_before i (slot_at slot) 1 old new below same
    by_place i (inr (inl above)) = byte_after i (slot_at slot) 1 old new above same
    by_place i (inr (inr here)) =
        subst (λ (k : ℕ). byte_at k new ≡ byte_at k old) (sym here) (first_is (slot_at slot) (header_size h) old new (omega arith) (after.1 ∙ sym before.1))

-- ---- gates of some slots

pub same_gate : (slot : ℕ) (old new : List ℕ) → SameOutside (slot_at slot) 1 old new → SameButGates (slot ∷ []) old new
same_gate slot old new same = record {
  size = same.size;
  same = λ at count none. elim none.0 [
    | inl before ↦ same.before at count before
    | inr past ↦ same.after at count (omega (arith, past))
  ];
}

pub same_none : (image : List ℕ) → SameButGates [] image image
same_none image = record { size = refl; same = λ at count none. refl }

-- a place without the gates of any has none of these
gates_first : (a b : List ℕ) (at count : ℕ) → HasNoGate (a ++ b) at count → HasNoGate a at count
gates_first [] b at count none = tt
gates_first (slot ∷ a) b at count none = (none.0, gates_first a b at count none.1)

gates_second : (a b : List ℕ) (at count : ℕ) → HasNoGate (a ++ b) at count → HasNoGate b at count
gates_second [] b at count none = none
gates_second (slot ∷ a) b at count none = gates_second a b at count none.1

pub same_more : (a b : List ℕ) (old mid new : List ℕ) → SameButGates a old mid → SameButGates b mid new → SameButGates (a ++ b) old new
same_more a b old mid new first second = record {
  size = second.size ∙ first.size;
  same = λ at count none. second.same at count (gates_second a b at count none) ∙ first.same at count (gates_first a b at count none);
}
