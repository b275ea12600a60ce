-- Why a `reopen` of a script is refused as it is to make room, by what reads since the start of the call showed (docs/MODEL.md, 'Opening').
use Rattle.std.specs.Prelude.{◌≡◌, ◌≢◌, ◌<◌, ◌≤◌, ◌+◌, ℕ, List, ◌∷◌, ◌++◌, length, None, Some}
use Rattle.std.specs.FinMap as finite
use Rattle.sha2.specs.Sha256.{sha256}
use Rattle.container_meta.specs.declared.place.Place.{Place}
use Rattle.container_meta.specs.Places.{PlaceMap}
use Rattle.disk_format.specs.Layout.{data_at}
use Rattle.disk_format.specs.declared.numbers.TheConstants.{RESERVE}
use Rattle.merkle_file.specs.declared.top.Top.{Top}
use Rattle.merkle_file.specs.Walk.{start_of}
use Rattle.namespace.specs.Listing.{NamedRoot, listing_of}
use Rattle.read_steps.specs.Opening.{top_of}
use Rattle.read_steps.specs.Visiting.{HasPlace, VisitsRoots, VisitsTo}
use Rattle.read_steps.specs.Walking.{IsPlacedAt, IsWrong, top_key}
use Rattle.refusals.specs.declared.refusal.Refusal.{Refusal}
use Rattle.refusals.specs.declared.refusal.Refusal.TheVariants.{Corrupt, Damaged, Missing}
use Rattle.segment_index.specs.Places.{IsPlace}
use Rattle.store_model.specs.Image.{Store, Encodes, IsValidFor, names_of}
use Rattle.store_model.specs.Refusals.{WereFound}
use Rattle.store_model.specs.Slots.{IsIndexOf, free_slots}
use Rattle.store_model.specs.Trees.{bytes_at}

-- Reads gave these bytes for a key: those at the place that the index has for it.
pub record IsReadFor (shown : (List ℕ → Type 0) → Type 0) (size : ℕ) (index : PlaceMap) (key bytes : List ℕ) : Type 0 where
  pub place : Place
  pub place_is : finite.get index key ≡ Some place
  pub right : IsPlace size place
  pub long : length bytes ≡ place.length
  pub there : shown (λ image. bytes_at place image ≡ bytes)

-- bytes of the right digest, from this byte of the disk on, are no node as it was named
pub record IsWrongNode (shown : (List ℕ → Type 0) → Type 0) (size : ℕ) (index : PlaceMap) (t : Top) (at : ℕ) (broken : List ℕ → Type 0)
    : Type 0 where
  pub bytes : List ℕ
  pub was_read : IsReadFor shown size index (top_key t) bytes
  pub at_is : at ≡ data_at was_read.place.slot + was_read.place.offset
  pub digest : sha256 bytes ≡ t.digest
  pub wrong : broken bytes

-- What comes first is not visited: the index has no place for its key; or it is a node, and at its place are bytes of another digest, or
-- of another form.
abbrev pub IsBarrier : ((List ℕ → Type 0) → Type 0) → ℕ → PlaceMap → List Top → Refusal → Type 0
IsBarrier shown size index (t ∷ ts) (Missing key) = (key ≡ top_key t) × (finite.get index (top_key t) ≡ None)
IsBarrier shown size index (t ∷ ts) (Corrupt slot offset count want got) =
    (1 ≤ t.level) × (want ≡ t.digest) × (want ≢ got) × IsPlacedAt (Some index) (top_key t) slot offset count
    × WereFound shown (data_at slot + offset) count got
IsBarrier shown size index (t ∷ ts) (Damaged at why) = (1 ≤ t.level) × IsWrongNode shown size index t at (λ bytes. IsWrong t bytes why)
IsBarrier shown size index ahead refusal = ⊥

-- Reads showed a store of which fewer than two slots are closed, and by its index the walk of the trees of all names came to what can't be
-- visited.
pub record HasNoRoom (shown : (List ℕ → Type 0) → Type 0) (size : ℕ) (refusal : Refusal) : Type 0 where
  pub store : Store
  pub right : shown (λ image. Encodes image store)
  pub valid : IsValidFor size store
  pub few : free_slots store.held < RESERVE
  pub index : PlaceMap
  pub index_is : IsIndexOf store.held index
  pub before : List NamedRoot
  pub at : NamedRoot
  pub rest : List NamedRoot
  pub names_are : listing_of (names_of store) ≡ before ++ at ∷ rest
  pub visited : List Top
  pub visits : VisitsRoots (IsReadFor shown size index) (HasPlace (Some index)) before visited
  pub visited_there : List Top
  pub ahead : List Top
  pub way : VisitsTo (IsReadFor shown size index) (HasPlace (Some index)) (start_of (top_of at.root)) visited_there ahead
  pub cause : IsBarrier shown size index ahead refusal
