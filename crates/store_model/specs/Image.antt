-- What a disk image stands for (docs/MODEL.md, 'Images').
use Rattle.std.specs.Prelude.{◌≡◌, ◌≢◌, ℕ, ◌+◌, ◌≤◌, Bool, false, List, [], ◌∷◌, length, replicate, max, Option, Some, None}
use Rattle.std.specs.FinMap as finite
use Rattle.std.specs.List.{AllByRecursion}
use Rattle.sha2.specs.Sha256.{sha256}
use Rattle.base_model.specs.Bytes.{range, byte_at}
use Rattle.disk_format.specs.Layout.{IsSlotCount, size_of, data_at, half_cells}
use Rattle.disk_format.specs.Cells.{RecordValue, SelectorValue, IsSelector, format_cell, first_selector}
use Rattle.disk_format.specs.declared.numbers.TheConstants.{FORMAT_GATE}
use Rattle.container_meta.specs.Spelling.{HeaderValue}
use Rattle.namespace.specs.Names.{NameMap, names_after}
use Rattle.store_model.specs.Journal.{last_of, HoldsJournal, KnowsOther, Follow}
use Rattle.store_model.specs.Slots.{HoldSlots, AreHeaders, DifferentIds}

-- what an image holds: how many slots it has, the selector that counts, whether the gate of the other one is open, the
-- records of the half that counts, and what is in each slot
pub record Store : Type 0 where
  pub slots : ℕ
  pub selector : SelectorValue
  pub other_open : Bool
  pub records : List RecordValue
  pub held : List (Option HeaderValue)

-- an empty store, as `format` makes it
abbrev pub empty_store : ℕ → Store
empty_store slots = record {
  slots = slots;
  selector = first_selector;
  other_open = false;
  records = [];
  held = replicate slots None;
}

-- the format cell is right, and says this many slots
abbrev pub HasFormat : ℕ → List ℕ → Type 0
HasFormat slots image = range 0 512 image ≡ format_cell slots

-- The image holds this: its cells and headers are right, and no two containers have one id.
pub record Encodes (image : List ℕ) (store : Store) : Type 0 where
  pub count : IsSlotCount store.slots
  pub size : length image ≡ size_of store.slots
  pub format : HasFormat store.slots image
  pub journal : HoldsJournal image store.selector store.records
  pub other : KnowsOther store.other_open store.selector.half image
  pub many : length store.held ≡ store.slots
  pub slots_are : HoldSlots 0 store.held image
  pub different : DifferentIds store.held

-- what is so of anything that an image of this size may hold
pub record IsValidFor (size : ℕ) (store : Store) : Type 0 where
  pub count : IsSlotCount store.slots
  pub size_is : size ≡ size_of store.slots
  pub selector_right : IsSelector store.selector
  pub few : length store.records ≤ half_cells
  pub follow : Follow 0 finite.empty store.records
  pub many : length store.held ≡ store.slots
  pub headers : AreHeaders store.held
  pub different : DifferentIds store.held

-- the names that the records leave
abbrev pub names_of : Store → NameMap
names_of store = names_after store.records finite.empty

-- the last sequence number that was given out
abbrev pub last_sequence : Store → ℕ
last_sequence store = max store.selector.last (last_of 0 store.records)

-- each entry's bytes have its digest, in slots from one on
abbrev pub AreCopies : ℕ → List (Option HeaderValue) → List ℕ → Type 0
AreCopies slot [] image = Unit {0}
AreCopies slot (None ∷ cs) image = AreCopies (slot + 1) cs image
AreCopies slot (Some h ∷ cs) image =
    AllByRecursion (λ e. sha256 (range (data_at slot + e.offset) e.length image) ≡ e.digest) h.entries × AreCopies (slot + 1) cs image

-- the size of a disk of so many slots, and no store on it
pub record IsBlankOf (slots : ℕ) (image : List ℕ) : Type 0 where
  pub count : IsSlotCount slots
  pub size : length image ≡ size_of slots
  pub closed : byte_at 0 image ≢ FORMAT_GATE
