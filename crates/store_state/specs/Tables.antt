-- Which store the tables of a running store represent (docs/MODEL.md, 'The running store').
use Rattle.std.specs.Prelude.{◌≡◌, ℕ, suc, ◌<◌, ◌≤◌, List, [], ◌∷◌, length, map, slice_get, Option, Some, None}
use Rattle.base_model.specs.Bytes.{zeros}
use Rattle.container_meta.specs.declared.kind.Kind.TheVariants.{Leaf}
use Rattle.container_meta.specs.Places.{PlaceMap}
use Rattle.container_meta.specs.Spelling.{HeaderValue, header_digest}
use Rattle.journal_cells.specs.Journal.{IsTold}
use Rattle.segment_index.specs.Places.{KnownMap}
use Rattle.store_model.specs.Image.{Store, IsValidFor}
use Rattle.store_model.specs.Slots.{HasFree, IsPartialIndexOf, first_free, ids_of, last_id}
use Rattle.store_state.specs.declared.slot_table.SlotCount.{SlotCount}
use Rattle.store_state.specs.declared.slot_table.SlotTable.{SlotTable}
use Rattle.store_state.specs.declared.tables.Tables.{Tables}

-- what a slot's header says beside the id: of which kind its segments are, how much it holds, and its digest
abbrev pub count_of : Option HeaderValue → SlotCount
count_of None = record { kind = Leaf; entries = 0; bytes = 0; digest = zeros 32 }
count_of (Some h) = record { kind = h.kind; entries = length h.entries; bytes = h.data_length; digest = header_digest h }

-- the table is that of these slots; its last id is the greatest that was ever given out
pub record RepresentsSlots (held : List (Option HeaderValue)) (table : SlotTable) : Type 0 where
  pub ids_are : table.ids.items ≡ ids_of held
  pub counts_are : table.counts.items ≡ map count_of held
  pub last_id_is : last_id held ≤ table.last_id

-- the closed slot of least number
pub record IsFirstFree (slot : ℕ) (held : List (Option HeaderValue)) : Type 0 where
  pub first : slot ≡ first_free held
  pub within : slot < length held
  pub closed : slice_get held slot ≡ Some None

-- the closed slots, from a number on, rising
abbrev pub closed_from : ℕ → List (Option HeaderValue) → List ℕ
closed_from at [] = []
closed_from at (None ∷ cs) = at ∷ closed_from (suc at) cs
closed_from at (Some h ∷ cs) = closed_from (suc at) cs

-- the journal and the names are those of the store
abbrev pub RepresentsNames : Store → Tables → Type 0
RepresentsNames store t = IsTold store.other_open store.selector store.records t.journal t.names t.journal.last

-- The tables, and the map of the index where it is known, are those of the store: its journal and names, and what its slots hold. Each
-- place that the index has is that of the newest copy of its key. Which keys it must have, the invariant says (`CoreInvariant`).
pub record Represents (store : Store) (known : Option PlaceMap) (t : Tables) : Type 0 where
  pub slots_are : t.slots ≡ store.slots
  pub names_are : RepresentsNames store t
  pub slots_hold : RepresentsSlots store.held t.held
  pub index_is_newest : KnownMap known (IsPartialIndexOf store.held)

-- They are those of some store that a disk of this size may hold, of which a slot is free.
pub record Runs (size : ℕ) (known : Option PlaceMap) (t : Tables) : Type 0 where
  pub store : Store
  pub represents : Represents store known t
  pub valid : IsValidFor size store
  pub has_free : HasFree store.held

-- P holds of each store that they represent
pub record OfEach (size : ℕ) (known : Option PlaceMap) (t : Tables) (P : Store → Type 0) : Type 0 where
  pub store_has : (store : Store) → Represents store known t → IsValidFor size store → HasFree store.held → P store
