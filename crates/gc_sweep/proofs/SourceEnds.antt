-- How a source that was copied ended: it waits, is ready, or goes on.
use Rattle.gc_sweep.proofs.Prelude.{◌≡◌, ◌⊎◌, inl, inr, ℕ, ◌+◌, ◌<◌, ◌≤◌, Bool, true, false, List, [], ◌∷◌, ◌++◌, length, get_or, Option, refl, sym, ◌∙◌, ap, subst, arith, Contains-append_left, Kind, PlaceMap, Contents, HeaderValue, Plan, SlotTable, Next, CopyNext, Flush, Release, End, Sweep, EndsBy, GoesOn, HasEnded, IsHalfCopied, IsOrigin, IsNext, entry_in, sources_before}
use Rattle.std.specs.List.{Contains}
use Rattle.std.proofs.lemmas.List.Elements.{Contains-push, Contains-push_cases}
use Rattle.gc_sweep.proofs.InSlots.{none_in}
use Rattle.gc_sweep.proofs.SourceRead.{IsReadOf}

-- What became of the slots: the source waits, or is ready, or goes on from the entry that didn't fit.
pub record Ends (held : List (Option HeaderValue)) (snapshot source slot : ℕ) (h : HeaderValue) (plan : Plan) (s s' : Sweep) : Type 0 where
  pub waits_on : (x : ℕ) → Contains s.waiting.items x → Contains s'.waiting.items x
  pub origin : 0 < plan.copied → IsOrigin held snapshot s' slot
  pub waits : (x : ℕ) → Contains s'.waiting.items x → Contains s.waiting.items x ⊎ ((x ≡ slot) × (length h.entries ≤ plan.next))
  pub is_ready : (x : ℕ) → Contains s'.ready.items x → (x ≡ slot) × (length h.entries ≤ plan.next) × (plan.copied ≡ 0)
  pub half : (x : ℕ) (g : HeaderValue) → IsHalfCopied held s' x g → (g.id ≡ h.id) × (entry_in s'.next ≡ plan.next)

-- ---- how it ended

module _ (t : SlotTable) (index : PlaceMap) (held : List (Option HeaderValue)) (snapshot source entry slot : ℕ) (kind : Kind) (filling : Contents) (h : HeaderValue) (s s' : Sweep)
    (within : source < length s.sources.items) (read : IsReadOf index held snapshot source entry s slot kind filling h) (others : GoesOn s s') (plan : Plan)
    (buffer_is : s'.buffer ≡ plan.buffer)
    (next_least : 0 < plan.copied → 0 < plan.next) where
  sources_are : s'.sources.items ≡ s.sources.items
  sources_are = ap (λ (v : _). v.items) others.sources_are

  -- it came to its end
  module _ (most : length h.entries ≤ plan.next) where
    -- and waits
    waits_now : 0 < plan.copied → s'.waiting.items ≡ s.waiting.items ++ slot ∷ [] → s'.ready.items ≡ [] → IsNext t s.sources.items plan.buffer (source + 1) 0 s'.next
        → Ends held snapshot source slot h plan s s'
    waits_now some waiting_is ready_is next = record {
      waits_on = λ x there. subst (λ (xs : List ℕ). Contains xs x) (sym waiting_is) (Contains-append_left s.waiting.items (slot ∷ []) x there);
      origin = λ more. inl here;
      waits = λ x there. elim (Contains-push_cases s.waiting.items slot x (subst (λ (xs : List ℕ). Contains xs x) waiting_is there)) [
        | inl was ↦ inl was
        | inr same ↦ inr (sym same, most)
      ];
      is_ready = λ x there. absurd (none_in s'.ready.items x ready_is there);
      half = λ x g half. absurd (omega (arith, half.some, entry_none s'.next next));
    }
      where
        here : Contains s'.waiting.items slot
        here = subst (λ (xs : List ℕ). Contains xs slot) (sym waiting_is) (Contains-push s.waiting.items slot)

        entry_none : (n : Next) → IsNext t s.sources.items plan.buffer (source + 1) 0 n → entry_in n ≡ 0
        entry_none (CopyNext k e) is = is.1
        entry_none (Flush k e) is = is.1
        entry_none (Release k e) is = absurd is
        entry_none End is = refl

    -- and is ready
    ready_now : plan.copied ≡ 0 → s'.waiting.items ≡ s.waiting.items → s'.ready.items ≡ slot ∷ [] → s'.next ≡ Release (source + 1) 0 → Ends held snapshot source slot h plan s s'
    ready_now none waiting_is ready_is next_is = record {
      waits_on = λ x there. subst (λ (xs : List ℕ). Contains xs x) (sym waiting_is) there;
      origin = λ more. absurd (omega (arith, more, none));
      waits = λ x there. inl (subst (λ (xs : List ℕ). Contains xs x) waiting_is there);
      is_ready = λ x there. elim (Contains-push_cases [] slot x (subst (λ (xs : List ℕ). Contains xs x) ready_is there)) [
        | inl none_there ↦ absurd (none_in [] x refl none_there)
        | inr same ↦ (sym same, most, none)
      ];
      half = λ x g half. absurd (omega (arith, half.some, ap entry_in next_is));
    }

    ended_now : HasEnded t slot source plan s s' → Ends held snapshot source slot h plan s s'
    ended_now (inl (some, waiting_is, ready_is, next)) = waits_now some waiting_is ready_is next
    ended_now (inr (none, waiting_is, ready_is, next_is)) = ready_now none waiting_is ready_is next_is

  -- it goes on from an entry
  goes_on : s'.waiting.items ≡ s.waiting.items → s'.ready.items ≡ [] → s'.next ≡ Flush source plan.next → Ends held snapshot source slot h plan s s'
  goes_on waiting_is ready_is next_is = record {
    waits_on = λ x there. subst (λ (xs : List ℕ). Contains xs x) (sym waiting_is) there;
    origin = λ more. inr (inl (
      h,
      (
          let half : IsHalfCopied held s' slot h =
          record {
            some = omega (arith, next_least more, ap entry_in next_is);
            there = read.there;
            id_is = read.id_is ∙ ap (λ (xs : List ℕ). get_or xs source 0) (sym sources_are) ∙ ap (λ (k : ℕ). get_or s'.sources.items k 0) (sym (ap (sources_before s') next_is));
          } in
          half
          ),
    ));
    waits = λ x there. inl (subst (λ (xs : List ℕ). Contains xs x) waiting_is there);
    is_ready = λ x there. absurd (none_in s'.ready.items x ready_is there);
    half = λ x g half. (
      half.id_is ∙ ap (λ (k : ℕ). get_or s'.sources.items k 0) (ap (sources_before s') next_is) ∙ ap (λ (xs : List ℕ). get_or xs source 0) sources_are ∙ sym read.id_is,
      ap entry_in next_is,
    );
  }

  pub ends_by : (ended : Bool) → (ended ≡ true → length h.entries ≤ plan.next) → EndsBy ended t slot source plan s s' → Ends held snapshot source slot h plan s s'
  ends_by true most ends = ended_now (most refl) ends
  ends_by false most (waiting_is, ready_is, next_is) = goes_on waiting_is ready_is next_is
