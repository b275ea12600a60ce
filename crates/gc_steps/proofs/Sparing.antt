-- Which keys are live after a scan, what holds of a sweep that is safe, and what holds of a container that is given back.
use Rattle.gc_steps.proofs.Prelude.{◌≡◌, ◌⊎◌, inl, inr, ℕ, zero, suc, ◌<◌, List, [], ◌∷◌, length, Option, Some, refl, subst, arith, slice_get, Part, PlaceMap, HeaderValue, IsHeader, DiskView, LiveKeys, IsAmong, child_keys, HasNoEntryIn, Files, Store, HasKey, IsPartialIndexOf, IsStoreOf, node_key, Collection, Stage, SweepStage, HoldsNode, ScansEntries, ScansSome, IsSafe, IsSafeAt, IsWithin, HoldsAt}
use Rattle.std.specs.List.{Contains}
use Rattle.gc_enumerate.specs.Live.{IsLiveAt}
use Rattle.gc_sweep.proofs.Released.{none_held}
use Rattle.merkle_file.specs.Node.{Contents}
use Rattle.store_model.specs.Reserve.{IsSpare}
use Rattle.store_model.specs.Slots.{Copy}
use Rattle.gc_steps.proofs.ScanKeeps.{IsNewKey, new_key, some_key}

-- ---- slots

pub held_within : (held : List (Option HeaderValue)) (slot : ℕ) (h : HeaderValue) → slice_get held slot ≡ Some (Some h) → slot < length held
held_within [] slot h is = absurd cc
held_within (x ∷ xs) zero h is = omega arith
held_within (x ∷ xs) (suc slot) h is = let rest = held_within xs slot h is in omega (arith, rest)

-- ---- which keys are live

module _ (P : List ℕ → Type 0) (index : PlaceMap) (store : Store) (files : Files) (image : List ℕ) (holds : IsStoreOf store files image)
    (partial : IsPartialIndexOf store.held index)
    (closed : (n : Contents) (copy : Copy) → HoldsNode store.held image n copy → P (node_key n) → (key : List ℕ) → Contains (child_keys n) key → P key)
    (old new : DiskView) (content : old.content ≡ Some image) (level slot : ℕ) (h : HeaderValue) (right : IsHeader h) (live after : LiveKeys) (within : IsWithin P live) where
  of_new : (key : List ℕ) → IsNewKey index live store.held image level key → P key
  of_new key is = closed is.parent is.was_live.copy is.was_live.node (within (node_key is.parent) is.was_live.is_live.0 is.was_live.is_live.1.1) key is.child

  pub within_scanned : ScansEntries (Some index) old new slot level h live after → IsWithin P after
  within_scanned scanned key place is = by_case ((scanned.marks.marks key place).0 is)
    where
      by_case : IsLiveAt live key place ⊎ IsAmong key place scanned.marks.found → P key
      by_case (inl earlier) = within key place earlier
      by_case (inr among) = of_new key (new_key index store files image holds partial old new content level slot h right live after scanned key place among)

  pub within_some : ScansSome (Some index) old new slot level h live after → IsWithin P after
  within_some scanned key place is = by_case ((scanned.marks.1.1.1 key place).0 is)
    where
      by_case : IsLiveAt live key place ⊎ IsAmong key place scanned.marks.0 → P key
      by_case (inl earlier) = within key place earlier
      by_case (inr among) = of_new key (some_key index store files image holds partial old new content level slot h right live after scanned key place among)

-- what holds of the sweep of one that is safe
pub held_at : (index : PlaceMap) (store : Store) (parts : List Part) (image : List ℕ) (c : Collection) → IsSafe index store parts image c → HoldsAt c.stage index store.held image c
held_at index store parts image c = by_stage c.stage refl
  where
    by_stage : (stage : Stage) → c.stage ≡ stage → IsSafeAt stage index store parts image c → HoldsAt stage index store.held image c
    by_stage SweepStage is safe = subst (λ (s : Stage). HoldsAt s index store.held image c) is safe.sweep_holds
    by_stage other is safe = tt

-- A container that is about to be given back holds the newest copy of no key of which P holds, where the index has all such.
pub ready_is_spare : (P : List ℕ → Type 0) (index : PlaceMap) (store : Store) (slot : ℕ) (h : HeaderValue) → slice_get store.held slot ≡ Some (Some h)
    → IsPartialIndexOf store.held index
    → ((key : List ℕ) → P key → HasKey index key) → HasNoEntryIn index slot → IsSpare P store.held slot
ready_is_spare P index store slot h there partial indexed none = record {
  header = h;
  holds = there;
  none = λ key copy needed is. none_held store index slot partial none key copy (indexed key needed) is;
}
