-- The header that was read as a source was copied is the source's, over a disk that tells its content.
use Rattle.gc_sweep.proofs.Prelude.{◌≡◌, ◌⊎◌, inl, inr, ℕ, zero, suc, ◌<◌, ◌≤◌, List, [], length, get_or, Option, Some, None, refl, sym, ◌∙◌, ap, subst, arith, slice_get-get_or, Kind, PlaceMap, Contents, has_key, HeaderValue, LiveKeys, DifferentIds, HoldSlots, HoldsSlot, some_same, as_many, slot_held, RepresentsSlots, SlotTable, CopyNext, Sweep, IsFilling, IsSource, AreCopied, HoldsSweep, IsHalfCopied, kind_in, HasNext, IsSweeping, entry_in, sources_before}
use Rattle.std.specs.Prelude.{slice_get}
use Rattle.copy_forward.specs.Copying.{IsOther}
use Rattle.store_model.proofs.Once.{slot_once}
use Rattle.gc_sweep.specs.Next.{IsOfKind}
use Rattle.gc_sweep.proofs.InSlots.{header_at, id_at, kind_at, one_slot, source_old}

-- what an image shows in a slot stands there
pub header_in : (held : List (Option HeaderValue)) (image : List ℕ) (slot : ℕ) (h : HeaderValue) → HoldSlots 0 held image → slot < length held → HoldsSlot image slot (Some h)
    → slice_get held slot ≡ Some (Some h)
header_in held image slot h holds within shown =
    let there : slice_get held slot ≡ Some (get_or held slot None) = slice_get-get_or held slot None within in
    there ∙ ap Some (slot_once slot (get_or held slot None) (Some h) image (slot_held slot held (get_or held slot None) image holds there) shown)

-- The header is that of the source of a number, which goes on from an entry.
pub record IsReadOf (index : PlaceMap) (held : List (Option HeaderValue)) (snapshot source entry : ℕ) (s : Sweep) (slot : ℕ) (kind : Kind) (filling : Contents)
    (h : HeaderValue) : Type 0 where
  pub there : slice_get held slot ≡ Some (Some h)
  pub id_is : h.id ≡ get_or s.sources.items source 0
  pub old : h.id < snapshot
  pub fills : IsFilling s.buffer kind filling
  pub kind_is : filling.kind ≡ h.kind
  pub few : entry ≤ length h.entries
  pub first : AreCopied (has_key s.buffer) index slot h entry

module _ (t : SlotTable) (index : PlaceMap) (held : List (Option HeaderValue)) (image : List ℕ) (live : LiveKeys) (snapshot source entry : ℕ) (s : Sweep)
    (slots : RepresentsSlots held t) (differ : DifferentIds held)
    (stand : HoldSlots 0 held image) (under : IsSweeping t snapshot s) (stage : s.next ≡ CopyNext source entry) (holds : HoldsSweep index held image live snapshot s) where
  pub at_copy_next : HasNext t s (CopyNext source entry)
  at_copy_next = subst (HasNext t s) stage under.next_is

  module _ (slot : ℕ) (kind : Kind) (filling : Contents) (is_source : IsSource t source s slot kind filling) (h : HeaderValue) (shown : HoldsSlot image slot (Some h)) where
    there : slice_get held slot ≡ Some (Some h)
    there = header_in held image slot h stand (omega (arith, is_source.within, ap length slots.ids_are, as_many held)) shown

    id_is : h.id ≡ get_or s.sources.items source 0
    id_is = sym (id_at held slot h there) ∙ ap (λ (ids : List ℕ). get_or ids slot 0) (sym slots.ids_are) ∙ is_source.id_is

    kind_here : kind_in t slot ≡ Some h.kind
    kind_here = kind_at held t slots slot h there

    kind_filled : filling.kind ≡ h.kind
    kind_filled = by_filling is_source.filling_is
      where
        by_kind : 0 < length s.buffer.segments → (s.buffer.segments ≡ []) ⊎ IsOfKind t (get_or s.sources.items source 0) s.buffer.kind → s.buffer.kind ≡ h.kind
        by_kind some (inl none) = absurd (omega (arith, some, ap length none))
        by_kind some (inr of_kind) =
            let at = header_at held t slots of_kind.slot (get_or s.sources.items source 0) of_kind.id_is (source_old held t snapshot s under source at_copy_next.0).0 in
            let same = one_slot held of_kind.slot slot at.0 h differ at.1.0 there (at.1.1 ∙ sym id_is) in
            some_same s.buffer.kind h.kind (sym of_kind.kind_is ∙ ap (kind_in t) same ∙ kind_here)

        by_filling : IsFilling s.buffer kind filling → filling.kind ≡ h.kind
        by_filling (inl (none, is)) = ap (λ (c : Contents). c.kind) is ∙ some_same kind h.kind (sym is_source.kind_is ∙ kind_here)
        by_filling (inr (some, is)) = ap (λ (c : Contents). c.kind) is ∙ by_kind some at_copy_next.3

    -- what was copied of it before
    half : 0 < entry → IsHalfCopied held s slot h
    half some = record {
      some = subst (λ (n : ℕ). 0 < n) (sym (ap entry_in stage)) some;
      there = there;
      id_is = id_is ∙ ap (λ (k : ℕ). get_or s.sources.items k 0) (sym (ap (sources_before s) stage));
    }

    pub read_of : IsReadOf index held snapshot source entry s slot kind filling h
    read_of = record {
      there = there;
      id_is = id_is;
      old = omega (arith, id_is, (source_old held t snapshot s under source at_copy_next.0).1);
      fills = is_source.filling_is;
      kind_is = kind_filled;
      few = few entry refl;
      first = first entry refl;
    }
      where
        few : (e : ℕ) → entry ≡ e → e ≤ length h.entries
        few zero is = omega arith
        few (suc e) is = omega (arith, (holds.half slot h (half (omega (arith, is)))).0, ap entry_in stage, is)

        first : (e : ℕ) → entry ≡ e → AreCopied (has_key s.buffer) index slot h e
        first zero is = tt
        first (suc e) is = subst (λ (n : ℕ). AreCopied (has_key s.buffer) index slot h n) (ap entry_in stage ∙ is) (holds.half slot h (half (omega (arith, is)))).1

    -- so it is not another one
    pub not_other : IsOther h entry filling → ⊥
    not_other (inl other) = other (sym kind_filled)
    not_other (inr fewer) = omega (arith, fewer, read_of.few)
