-- Slots, and one more after them.
use Rattle.recovery.proofs.Prelude.{◌≢◌, ℕ, ◌+◌, List, [], ◌∷◌, ◌++◌, length, Option, Some, None, sym, subst, arith, HeaderValue, HoldsSlot, HoldSlots, IsUnusedId, DifferentIds}

pub hold-push : (slot : ℕ) (held : List (Option HeaderValue)) (c : Option HeaderValue) (image : List ℕ) → HoldSlots slot held image → HoldsSlot image (slot + length held) c →
    HoldSlots slot (held ++ c ∷ []) image
hold-push slot [] c image before here = (subst (λ s. HoldsSlot image s c) (omega arith) here, tt)
hold-push slot (h ∷ held) c image before here = (before.0, hold-push (slot + 1) held c image before.1 (subst (λ s. HoldsSlot image s c) (omega arith) here))

pub unused-push : (id : ℕ) (held : List (Option HeaderValue)) (h : HeaderValue) → IsUnusedId id held → h.id ≢ id → IsUnusedId id (held ++ Some h ∷ [])
unused-push id [] h fresh other = (other, tt)
unused-push id (None ∷ held) h fresh other = unused-push id held h fresh other
unused-push id (Some g ∷ held) h fresh other = (fresh.0, unused-push id held h fresh.1 other)

pub unused-push-none : (id : ℕ) (held : List (Option HeaderValue)) → IsUnusedId id held → IsUnusedId id (held ++ None ∷ [])
unused-push-none id [] fresh = tt
unused-push-none id (None ∷ held) fresh = unused-push-none id held fresh
unused-push-none id (Some g ∷ held) fresh = (fresh.0, unused-push-none id held fresh.1)

-- an id that none of the slots has is none of those before the last, and not that of the last
pub unused_before : (id : ℕ) (held : List (Option HeaderValue)) (c : Option HeaderValue) → IsUnusedId id (held ++ c ∷ []) → IsUnusedId id held
unused_before id [] c unused = tt
unused_before id (None ∷ held) c unused = unused_before id held c unused
unused_before id (Some g ∷ held) c unused = (unused.0, unused_before id held c unused.1)

pub unused_last : (id : ℕ) (held : List (Option HeaderValue)) (h : HeaderValue) → IsUnusedId id (held ++ Some h ∷ []) → h.id ≢ id
unused_last id [] h unused = unused.0
unused_last id (None ∷ held) h unused = unused_last id held h unused
unused_last id (Some g ∷ held) h unused = unused_last id held h unused.1

pub different-push : (held : List (Option HeaderValue)) (h : HeaderValue) → DifferentIds held → IsUnusedId h.id held → DifferentIds (held ++ Some h ∷ [])
different-push [] h differ fresh = (tt, tt)
different-push (None ∷ held) h differ fresh = different-push held h differ fresh
different-push (Some g ∷ held) h differ fresh = (unused-push g.id held h differ.0 (λ e. fresh.0 (sym e)), different-push held h differ.1 fresh.1)

pub different-push-none : (held : List (Option HeaderValue)) → DifferentIds held → DifferentIds (held ++ None ∷ [])
different-push-none [] differ = tt
different-push-none (None ∷ held) differ = different-push-none held differ
different-push-none (Some g ∷ held) differ = (unused-push-none g.id held differ.0, different-push-none held differ.1)
