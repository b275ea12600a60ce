-- What slots hold, and the copies in them, once one of them was written to.
use Rattle.store_model.proofs.Prelude.{◌≡◌, ◌≢◌, ◌⊎◌, inl, inr, ℕ, zero, suc, ◌+◌, ◌<◌, ◌≤◌, true, false, List, [], ◌∷◌, length, get_or, Option, Some, None, refl, ◌∙◌, subst, arith, nat_lt, ltb-true, ltb-false, SameOutside, SLOT_BYTES, slot_at, HeaderValue, HoldsSlot, HoldSlots, AreHeaders, with_slot, AreCopies}
use Rattle.store_model.proofs.Frames.{SameSlot, SameSlots, HaveDigests, slot_kept, digests_kept, slots_kept, copies_kept}

-- two numbers that differ
below_or_above : (a b : ℕ) → a ≢ b → (a < b) ⊎ (b < a)
below_or_above a b other = elim (nat_lt a b) as (λ less. nat_lt a b ≡ less → (a < b) ⊎ (b < a)) [
  | true ↦ λ is. inl (ltb-true a b is)
  | false ↦ λ is. inr (let least : b ≤ a = ltb-false a b is in omega arith)
] refl

-- every other slot is as it was
pub other_same : (slot other : ℕ) (old new : List ℕ) → SameOutside (slot_at slot) SLOT_BYTES old new → other ≢ slot → SameSlot other old new
other_same slot other old new same differ p n above below = elim (below_or_above other slot differ) [
  | inl less ↦ same.before p n (omega (arith, below, less))
  | inr more ↦ same.after p n (omega (arith, above, more))
]

module _ (slot : ℕ) (old new : List ℕ) (same : SameOutside (slot_at slot) SLOT_BYTES old new) where
  -- slots after it
  rest_same : (from count : ℕ) → slot < from → SameSlots from count old new
  rest_same from count after other above below = other_same slot other old new same (omega (arith, after, above))

  -- it holds a container now
  pub holds_with : (from index : ℕ) (h : HeaderValue) (held : List (Option HeaderValue)) → slot ≡ from + index → HoldsSlot new slot (Some h)
      → HoldSlots from held old → HoldSlots from (with_slot index h held) new
  holds_with from index h [] place here holds = tt
  holds_with from zero h (c ∷ cs) place here holds =
      (subst (λ (s : ℕ). HoldsSlot new s (Some h)) (place ∙ omega arith) here, slots_kept old new (from + 1) cs (rest_same (from + 1) (length cs) (omega (arith, place))) holds.1)
  holds_with from (suc index) h (c ∷ cs) place here holds =
      (slot_kept from old new (other_same slot from old new same (omega (arith, place))) c holds.0, holds_with (from + 1) index h cs (omega (arith, place)) here holds.1)

  -- it is closed still
  pub holds_still : (from index : ℕ) (held : List (Option HeaderValue)) → slot ≡ from + index → get_or held index None ≡ None → HoldsSlot new slot None → HoldSlots from held old →
      HoldSlots from held new
  holds_still from index [] place empty here holds = tt
  holds_still from zero (Some g ∷ cs) place empty here holds = absurd cc
  holds_still from zero (None ∷ cs) place empty here holds =
      (subst (λ (s : ℕ). HoldsSlot new s None) (place ∙ omega arith) here, slots_kept old new (from + 1) cs (rest_same (from + 1) (length cs) (omega (arith, place))) holds.1)
  holds_still from (suc index) (c ∷ cs) place empty here holds =
      (slot_kept from old new (other_same slot from old new same (omega (arith, place))) c holds.0, holds_still (from + 1) index cs (omega (arith, place)) empty here holds.1)

  -- a container more, whose entries have the digests of their bytes
  pub copies_with : (from index : ℕ) (h : HeaderValue) (held : List (Option HeaderValue)) → slot ≡ from + index → get_or held index None ≡ None → HaveDigests slot h.entries new →
      AreHeaders held
      → AreCopies from held old → AreCopies from (with_slot index h held) new
  copies_with from index h [] place empty here headers copies = tt
  copies_with from zero h (Some g ∷ cs) place empty here headers copies = absurd cc
  copies_with from zero h (None ∷ cs) place empty here headers copies = (
    subst (λ (s : ℕ). HaveDigests s h.entries new) (place ∙ omega arith) here,
    copies_kept old new (from + 1) cs (rest_same (from + 1) (length cs) (omega (arith, place))) headers copies,
  )
  copies_with from (suc index) h (None ∷ cs) place empty here headers copies = copies_with (from + 1) index h cs (omega (arith, place)) empty here headers copies
  copies_with from (suc index) h (Some g ∷ cs) place empty here headers copies = (
    digests_kept from old new (other_same slot from old new same (omega (arith, place))) g headers.0 copies.0,
    copies_with (from + 1) index h cs (omega (arith, place)) empty here headers.1 copies.1,
  )

  -- no container more
  pub copies_still : (from index : ℕ) (held : List (Option HeaderValue)) → slot ≡ from + index → get_or held index None ≡ None → AreHeaders held → AreCopies from held old →
      AreCopies from held new
  copies_still from index [] place empty headers copies = tt
  copies_still from zero (Some g ∷ cs) place empty headers copies = absurd cc
  copies_still from zero (None ∷ cs) place empty headers copies = copies_kept old new (from + 1) cs (rest_same (from + 1) (length cs) (omega (arith, place))) headers copies
  copies_still from (suc index) (None ∷ cs) place empty headers copies = copies_still (from + 1) index cs (omega (arith, place)) empty headers copies
  copies_still from (suc index) (Some g ∷ cs) place empty headers copies = (
    digests_kept from old new (other_same slot from old new same (omega (arith, place))) g headers.0 copies.0,
    copies_still (from + 1) index cs (omega (arith, place)) empty headers.1 copies.1,
  )
