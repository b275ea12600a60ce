-- Slots that may be given back, by the ids and the marks of all.
use Rattle.recovery.proofs.Prelude.{◌≢◌, inl, inr, ℕ, zero, suc, ◌+◌, ◌-◌, ◌^◌, ◌<◌, ◌≤◌, Bool, true, false, List, [], ◌∷◌, ◌++◌, length, get_or, slice_set, Option, Some, None, refl, sym, ◌∙◌, ap, subst, arith, slice_get, leb-true, HeaderValue, IsHeader, RESERVE, Top, IsLeastSpare, FreesSome, FreesTo, with_all_freed, Store, AreHeaders, free_slots, ids_of, some_same, IsVisited, IsLeastIn, IsLeastOf, IsReady}
use Rattle.std.proofs.Common.{◌≡◌}
use Rattle.std.specs.Prelude.{nat_le}
use Rattle.base_model.proofs.Checks.{both}
use Rattle.store_model.specs.Freeing.{with_freed}
use Rattle.store_model.specs.Reserve.{HoldsNone}
use Rattle.store_model.proofs.Freed.{free_freed, ids_freed, valid_freed}
use Rattle.store_model.proofs.FreedTrees.{none_after, none_before}
use Rattle.recovery.specs.Making.{IsSpareIn, IsEnough}

-- ---- ids of slots

id_there : (held : List (Option HeaderValue)) (slot : ℕ) (h : HeaderValue) → slice_get held slot ≡ Some (Some h) → get_or (ids_of held) slot 0 ≡ h.id
id_there [] slot h there = absurd cc
id_there (None ∷ cs) zero h there = absurd cc
id_there (Some g ∷ cs) zero h there = cc
id_there (None ∷ cs) (suc slot) h there = id_there cs slot h there
id_there (Some g ∷ cs) (suc slot) h there = id_there cs slot h there

there_by : (held : List (Option HeaderValue)) (slot : ℕ) → get_or (ids_of held) slot 0 ≢ 0 → (h : HeaderValue) × (slice_get held slot ≡ Some (Some h))
there_by [] slot other = absurd (other refl)
there_by (None ∷ cs) zero other = absurd (other refl)
there_by (Some g ∷ cs) zero other = (g, refl)
there_by (None ∷ cs) (suc slot) other = there_by cs slot other
there_by (Some g ∷ cs) (suc slot) other = there_by cs slot other

within_ids : (held : List (Option HeaderValue)) (slot : ℕ) (h : HeaderValue) → slice_get held slot ≡ Some (Some h) → slot < length (ids_of held)
within_ids [] slot h there = absurd cc
within_ids (None ∷ cs) zero h there = absurd cc
within_ids (Some g ∷ cs) zero h there = omega arith
within_ids (None ∷ cs) (suc slot) h there = omega (arith, within_ids cs slot h there)
within_ids (Some g ∷ cs) (suc slot) h there = omega (arith, within_ids cs slot h there)

header_there : (held : List (Option HeaderValue)) (slot : ℕ) (h : HeaderValue) → AreHeaders held → slice_get held slot ≡ Some (Some h) → IsHeader h
header_there [] slot h headers there = absurd cc
header_there (None ∷ cs) zero h headers there = absurd cc
header_there (Some g ∷ cs) zero h headers there = subst IsHeader (let same : Some g ≡ Some h = some_same (Some g) (Some h) there in some_same g h same) headers.0
header_there (None ∷ cs) (suc slot) h headers there = header_there cs slot h headers there
header_there (Some g ∷ cs) (suc slot) h headers there = header_there cs slot h headers.1 there

id_from_one : (h : HeaderValue) → IsHeader h → 1 ≤ h.id
id_from_one h right = leb-true 1 h.id (both (nat_le 1 h.id) (nat_le h.id (2 ^ 64 - 2)) right.id).0

-- ---- what is given back next

module _ (size : ℕ) (store : Store) (visited : List Top) (ids : List ℕ) (used : List Bool) (free : ℕ) (ready : IsReady size store visited ids used free) where
  id_is : (slot : ℕ) (h : HeaderValue) → slice_get store.held slot ≡ Some (Some h) → get_or ids slot 0 ≡ h.id
  id_is slot h there = ap (λ (ns : List ℕ). get_or ns slot 0) ready.ids_are ∙ id_there store.held slot h there

  spare_there : (slot : ℕ) → IsSpareIn ids used slot → (h : HeaderValue) × (slice_get store.held slot ≡ Some (Some h))
  spare_there slot spare = there_by store.held slot (λ none. spare.open_is (ap (λ (ns : List ℕ). get_or ns slot 0) ready.ids_are ∙ none))

  unused_by : (slot : ℕ) (b : Bool) → get_or used slot false ≡ b → HoldsNone (IsVisited visited) store.held slot → get_or used slot false ≡ false
  unused_by slot false is none = is
  unused_by slot true is none = absurd (ready.marks.needed slot is none)

  spare_in : (slot : ℕ) (h : HeaderValue) → slice_get store.held slot ≡ Some (Some h) → HoldsNone (IsVisited visited) store.held slot → IsSpareIn ids used slot
  spare_in slot h there none = record {
    within = subst (λ (ns : List ℕ). slot < length ns) (sym ready.ids_are) (within_ids store.held slot h there);
    open_is = λ zero_is. omega (arith, zero_is, id_is slot h there, id_from_one h (header_there store.held slot h ready.valid.headers there));
    unused = unused_by slot (get_or used slot false) refl none;
  }

  -- it is the one of the least id
  pub least_given : (slot : ℕ) → IsLeastIn ids used (length ids) slot → IsLeastSpare (IsVisited visited) store slot
  least_given slot least =
      let here = spare_there slot least.spare in
      record {
        header = here.0;
        holds = here.1;
        none = ready.marks.clear slot least.spare.unused;
        least = λ other h there none.
            let spare = spare_in other h there none in
            omega (arith, least.least other spare.within spare, id_is slot here.0 here.1, id_is other h there);
      }

  -- none is left
  pub none_given : IsLeastOf ids used (length ids) None → IsEnough (IsVisited visited) store
  none_given none = inr (λ slot spare. let there = spare_in slot spare.header spare.holds spare.none in none slot there.within there)

  -- once it is closed
  pub ready_after : (slot : ℕ) → IsLeastSpare (IsVisited visited) store slot → IsReady size (with_freed slot store) visited (slice_set ids slot 0) used (free + 1)
  ready_after slot spare = record {
    valid = valid_freed size slot store ready.valid;
    ids_are = ap (λ (ns : List ℕ). slice_set ns slot 0) ready.ids_are ∙ sym (ids_freed slot store.held);
    free_is = omega (arith, ready.free_is, free_freed slot spare.header store.held spare.holds);
    marks = record {
      clear = λ other unused. none_after (IsVisited visited) slot other store.held spare.none (ready.marks.clear other unused);
      needed = λ other is none. ready.marks.needed other is (none_before (IsVisited visited) slot other store.held spare.none none);
    };
  }

-- ---- one after the other

pub all_freed_more : (freed : List ℕ) (slot : ℕ) (s : Store) → with_all_freed (freed ++ slot ∷ []) s ≡ with_freed slot (with_all_freed freed s)
all_freed_more [] slot s = refl
all_freed_more (first ∷ freed) slot s = all_freed_more freed slot (with_freed first s)

pub frees_more : (P : List ℕ → Type 0) (freed : List ℕ) (slot : ℕ) (s : Store) → FreesSome P freed s → free_slots (with_all_freed freed s).held < RESERVE →
    IsLeastSpare P (with_all_freed freed s) slot
    → FreesSome P (freed ++ slot ∷ []) s
frees_more P [] slot s frees few spare = (few, spare, tt)
frees_more P (first ∷ freed) slot s frees few spare = (frees.0, frees.1, frees_more P freed slot (with_freed first s) frees.2 few spare)

-- as many as have to be
pub frees_all : (P : List ℕ → Type 0) (freed : List ℕ) (s : Store) → FreesSome P freed s → IsEnough P (with_all_freed freed s) → FreesTo P freed s (with_all_freed freed s)
frees_all P [] s frees enough = (refl, enough)
frees_all P (first ∷ freed) s frees enough = (frees.0, frees.1, frees_all P freed (with_freed first s) frees.2 enough)

-- ---- by other words for the keys that are needed

module _ (P Q : List ℕ → Type 0) (fewer : (key : List ℕ) → P key → Q key) (needed : (key : List ℕ) → Q key → P key) where
  least_by : (s : Store) (slot : ℕ) → IsLeastSpare P s slot → IsLeastSpare Q s slot
  least_by s slot spare = record {
    header = spare.header;
    holds = spare.holds;
    none = λ key copy is. spare.none key copy (needed key is);
    least = λ other h there none. spare.least other h there (λ key copy is. none key copy (fewer key is));
  }

  pub some_by : (freed : List ℕ) (s : Store) → FreesSome P freed s → FreesSome Q freed s
  some_by [] s frees = tt
  some_by (slot ∷ rest) s frees = (frees.0, least_by s slot frees.1, some_by rest (with_freed slot s) frees.2)

  pub all_by : (freed : List ℕ) (s t : Store) → FreesTo P freed s t → FreesTo Q freed s t
  all_by [] s t frees = (
    frees.0,
    elim frees.1 [
      | inl enough ↦ inl enough
      | inr none ↦ inr (λ slot spare. none slot (record { header = spare.header; holds = spare.holds; none = λ key copy is. spare.none key copy (fewer key is) }))
    ],
  )
  all_by (slot ∷ rest) s t frees = (frees.0, least_by s slot frees.1, all_by rest (with_freed slot s) t frees.2)
