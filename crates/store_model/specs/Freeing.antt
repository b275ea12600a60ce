-- Containers that are given back (docs/MODEL.md, 'The reserve' and 'Sweeping').
use Rattle.std.specs.Prelude.{◌≡◌, ◌⊎◌, ◌+◌, ◌<◌, ◌≤◌, ℕ, Bool, true, false, List, [], ◌∷◌, length, slice_get, take, Some}
use Rattle.std.specs.List.{AllByRecursion}
use Rattle.base_model.specs.Bytes.{range}
use Rattle.container_meta.specs.Spelling.{HeaderValue}
use Rattle.disk_format.specs.Layout.{slot_at}
use Rattle.disk_format.specs.declared.numbers.TheConstants.{RESERVE}
use Rattle.store_model.specs.Image.{Store, Encodes}
use Rattle.store_model.specs.Reserve.{HoldsNone, IsSpare}
use Rattle.store_model.specs.Slots.{free_slots, without_slot}

-- the store, once a slot is closed
abbrev pub with_freed : ℕ → Store → Store
with_freed slot store = record store { held = without_slot slot store.held }

-- once these are, one after the other
abbrev pub with_all_freed : List ℕ → Store → Store
with_all_freed [] store = store
with_all_freed (slot ∷ rest) store = with_all_freed rest (with_freed slot store)

-- once those are that are marked
abbrev pub without_some : List Bool → List ℕ → Store → Store
without_some [] slots store = store
without_some (mark ∷ marks) [] store = store
without_some (true ∷ marks) (slot ∷ slots) store = without_some marks slots (with_freed slot store)
without_some (false ∷ marks) (slot ∷ slots) store = without_some marks slots store

-- Of the containers that hold the newest copy of no key of which P holds, the slot has that of the least id.
pub record IsLeastSpare (P : List ℕ → Type 0) (store : Store) (slot : ℕ) : Type 0 where
  pub header : HeaderValue
  pub holds : slice_get store.held slot ≡ Some (Some header)
  pub none : HoldsNone P store.held slot
  pub least : (other : ℕ) (h : HeaderValue) → slice_get store.held other ≡ Some (Some h) → HoldsNone P store.held other → header.id ≤ h.id

-- Such containers are given back, one after the other, until two slots are closed, or no such container is left.
abbrev pub FreesTo : (List ℕ → Type 0) → List ℕ → Store → Store → Type 0
FreesTo P [] s t = (t ≡ s) × ((RESERVE ≤ free_slots s.held) ⊎ ((slot : ℕ) → ¬ (IsSpare P s.held slot)))
FreesTo P (slot ∷ rest) s t = (free_slots s.held < RESERVE) × IsLeastSpare P s slot × FreesTo P rest (with_freed slot s) t

-- or some of them, after which a write may have failed
abbrev pub FreesSome : (List ℕ → Type 0) → List ℕ → Store → Type 0
FreesSome P [] s = Unit {0}
FreesSome P (slot ∷ rest) s = (free_slots s.held < RESERVE) × IsLeastSpare P s slot × FreesSome P rest (with_freed slot s)

-- some bytes have none of the gates of these slots
abbrev pub HasNoGate : List ℕ → ℕ → ℕ → Type 0
HasNoGate slots at count = AllByRecursion (λ slot. (at + count ≤ slot_at slot) ⊎ (slot_at slot < at)) slots

-- all bytes but the gates of these slots are as they were
pub record SameButGates (slots : List ℕ) (old new : List ℕ) : Type 0 where
  pub size : length new ≡ length old
  pub same : (at count : ℕ) → HasNoGate slots at count → range at count new ≡ range at count old

-- Some of these slots are closed, the first of them first, and all else of the image is as it was.
pub record IsPartlyFreed (store : Store) (freed : List ℕ) (old new : List ℕ) : Type 0 where
  pub count : ℕ
  pub right : Encodes new (with_all_freed (take count freed) store)
  pub same : SameButGates (take count freed) old new
