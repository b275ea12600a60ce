-- Which entries of a container are live, and the copies that the index has (docs/MODEL.md, 'Collection').
use Rattle.std.specs.Prelude.{◌≡◌, ◌⊎◌, ℕ, ◌+◌, ◌==◌, ◌&&◌, Bool, true, false, List, [], ◌∷◌, Option, None, Some}
use Rattle.std.specs.FinMap as finite
use Rattle.container_meta.specs.declared.entry.Entry.{Entry}
use Rattle.container_meta.specs.declared.kind.Kind.{Kind}
use Rattle.container_meta.specs.declared.place.Place.{Place}
use Rattle.container_meta.specs.Places.{PlaceMap}
use Rattle.gc_enumerate.specs.Live.{LiveKeys, IsLiveAt}
use Rattle.refusals.specs.declared.refusal.Refusal.{Refusal}
use Rattle.refusals.specs.declared.refusal.Refusal.TheVariants.{Memory, DiskRead, DiskWrite, Damaged}
use Rattle.segment_index.specs.Places.{KnownMap}
use Rattle.store_model.specs.Indexing.{entry_key}
use Rattle.store_model.specs.Slots.{place_of}

-- ---- copies

-- two places are one
abbrev pub is_place : Place → Place → Bool
is_place a b = (a.slot == b.slot) && (a.offset == b.offset) && (a.length == b.length) && (a.level == b.level)

abbrev pub is_place_found : Option Place → Place → Bool
is_place_found None place = false
is_place_found (Some found) place = is_place found place

-- the index has the entry's segment as the copy of its key
abbrev pub is_copy : PlaceMap → Kind → ℕ → Entry → Bool
is_copy index kind slot e = is_place_found (finite.get index (entry_key kind e)) (place_of slot e)

-- and it is live
abbrev pub IsLiveCopy : PlaceMap → LiveKeys → Kind → ℕ → Entry → Type 0
IsLiveCopy index live kind slot e = (is_copy index kind slot e ≡ true) × IsLiveAt live (entry_key kind e) (place_of slot e)

-- an entry isn't
abbrev pub IsDead : PlaceMap → LiveKeys → Kind → ℕ → Entry → Type 0
IsDead index live kind slot e = IsLiveCopy index live kind slot e → ⊥

-- the sum of the lengths of those entries that are live copies
abbrev pub SumsLive : PlaceMap → LiveKeys → Kind → ℕ → List Entry → ℕ → Type 0
SumsLive index live kind slot [] sum = sum ≡ 0
SumsLive index live kind slot (e ∷ es) sum =
    (IsLiveCopy index live kind slot e × ((rest : ℕ) × (sum ≡ e.length + rest) × SumsLive index live kind slot es rest))
    ⊎ (IsDead index live kind slot e × SumsLive index live kind slot es sum)

-- the map without these keys
abbrev pub without_keys : List (List ℕ) → PlaceMap → PlaceMap
without_keys [] index = index
without_keys (k ∷ ks) index = without_keys ks (finite.remove index k)

-- ---- why they are not told

-- why the index does not tell which entries are copies: a read that failed, or damage, where its map isn't known
abbrev pub IsLookUpRefusal : Option PlaceMap → Refusal → Type 0
IsLookUpRefusal known DiskRead = Unit {0}
IsLookUpRefusal known (Damaged at why) = known ≡ None
IsLookUpRefusal known refusal = ⊥

-- the same, or no memory
abbrev pub IsScanRefusal : Option PlaceMap → Refusal → Type 0
IsScanRefusal known Memory = Unit {0}
IsScanRefusal known refusal = IsLookUpRefusal known refusal

-- why keys are not taken out of it: a write, a sync or a read of it that failed, or damage, where its map isn't known
abbrev pub IsRemoveRefusal : Option PlaceMap → Refusal → Type 0
IsRemoveRefusal known DiskWrite = Unit {0}
IsRemoveRefusal known (Damaged at why) = known ≡ None
IsRemoveRefusal known refusal = ⊥

-- What is left of the map after a refusal: it stays; but after a write that failed, and after damage where it isn't known, keys may be out.
abbrev pub MapStays : Option PlaceMap → Option PlaceMap → Refusal → Type 0
MapStays known after DiskWrite = Unit {0}
MapStays known after (Damaged at why) = KnownMap known (λ index. after ≡ Some index)
MapStays known after refusal = after ≡ known
