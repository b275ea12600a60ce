-- Several containers that are offered together: how many of them are sealed, in which slots, and why none is (docs/MODEL.md, 'Claims and
-- seals').
use Rattle.std.specs.Prelude.{◌≡◌, ℕ, ◌+◌, ◌≤◌, List, [], ◌∷◌, length, take, slice_get, Option, Some, None, IfSome}
use Rattle.std.specs.Global.{Vec}
use Rattle.std.specs.List.{AllByRecursion}
use Rattle.container_meta.specs.declared.place.Place.{Place}
use Rattle.container_meta.specs.Places.{PlaceMap}
use Rattle.container_meta.specs.Segments.{Contents}
use Rattle.container_log.specs.Many.{placed}
use Rattle.actor_parts.specs.declared.part.Part.{Part}
use Rattle.actor_parts.specs.declared.part.Part.TheVariants.{Writing}
use Rattle.actor_parts.specs.declared.pins.Pin.{Pin}
use Rattle.actor_parts.specs.Offers.{sealed_of}
use Rattle.actor_parts.specs.PinMap.{PinMap, IsPin}
use Rattle.refusals.specs.declared.refusal.PartKind.TheVariants as kinds
use Rattle.refusals.specs.declared.refusal.Refusal.{Refusal}
use Rattle.refusals.specs.declared.refusal.Refusal.TheVariants.{Memory, WrongPart, Unpinned, Full, Numbers, DiskWrite}
use Rattle.store_model.specs.Image.{Store}
use Rattle.store_model.specs.Slots.{free_slots}
use Rattle.store_model.specs.Together.{Placed}
use Rattle.store_state.specs.Comparing.{FitSoFar, IsFirstUnlike}
use Rattle.store_state.specs.declared.tables.Tables.{Tables}
use Rattle.store_state.specs.Tables.{OfEach, closed_from}
use Rattle.ingest_steps.specs.Pinning.{WereHad, first_unpinned_of, or_else, with_pins}
use Rattle.ingest_steps.specs.Sealing.{IsSlotRefusal, IsSealRefusal, WasCompared}
use Rattle.ingest_steps.specs.Writers.{IsWrongPart}

-- ---- how many are sealed, and where

-- containers, under ids from one on, each in the closed slot of least number that those before it leave
abbrev pub in_free : ℕ → List Contents → Store → List Placed
in_free id filled store = placed (closed_from 0 store.held) id filled

-- those that are sealed of an offer
abbrev pub offer_in : Tables → List Contents → Store → List Placed
offer_in t filled store = in_free (t.held.last_id + 1)
    (take (sealed_of (length filled) (free_slots store.held) t.held.last_id) filled) store

-- so many are sealed of so many that are offered, by each store that the tables represent
abbrev pub IsRoomFor : Tables → ℕ → ℕ → Type 0
IsRoomFor t offered count = (size : ℕ) (known : Option PlaceMap)
    → OfEach size known t (λ store. count ≡ sealed_of offered (free_slots store.held) t.held.last_id)

-- as many slots as are sealed of so many, one at least: the closed ones of least number
pub record AreSlotsOf (t : Tables) (offered : ℕ) (slots : List ℕ) (store : Store) : Type 0 where
  pub many : length slots ≡ sealed_of offered (free_slots store.held) t.held.last_id
  pub some : 1 ≤ length slots
  pub first : slots ≡ take (length slots) (closed_from 0 store.held)

-- they are those of each store that the tables represent
abbrev pub HasSlots : Tables → ℕ → List ℕ → Type 0
HasSlots t offered slots = (size : ℕ) (known : Option PlaceMap) → OfEach size known t (AreSlotsOf t offered slots)

-- ---- what has to be kept already, and what is kept then

-- the first child, of the first container that has one, that isn't among the pins
abbrev pub first_unpinned_in : List Contents → PinMap → Option (List ℕ)
first_unpinned_in [] pins = None
first_unpinned_in (c ∷ cs) pins = or_else (first_unpinned_of c.kind c.segments pins) (first_unpinned_in cs pins)

-- The actor stores a file, and keeps each child of each segment of each container.
pub record MayKeepAll (part : Part) (filled : List Contents) : Type 0 where
  pub pins : PinMap
  pub writing : part ≡ Writing pins
  pub pinned : first_unpinned_in filled pins ≡ None

-- why it isn't so, in this order: the part, the first child that it doesn't keep
abbrev pub IsUnkeptIn : Part → List Contents → Refusal → Type 0
IsUnkeptIn part filled (WrongPart kind) = IsWrongPart kinds.Writing part (WrongPart kind)
IsUnkeptIn part filled (Unpinned key) = (pins : PinMap) × (part ≡ Writing pins) × (first_unpinned_in filled pins ≡ Some key)
IsUnkeptIn part filled refusal = ⊥

-- the pins with those of each container, one after the other
abbrev pub with_pins_of : List Contents → PinMap → PinMap
with_pins_of [] pins = pins
with_pins_of (c ∷ cs) pins = with_pins_of cs (with_pins c.kind c.segments pins)

-- what was said of the keys of a container before they were pinned
pub record IsHadOf (c : Contents) (pins : PinMap) (hads : List (Option Pin)) : Type 0 where
  pub many : length hads ≡ length c.segments
  pub were : WereHad c.kind c.segments pins hads
  pub right : AllByRecursion (λ had. IfSome had IsPin) hads

-- of the keys of each of the first containers, in order
abbrev pub WereHadIn : List Contents → PinMap → List (Vec (Option Pin)) → Type 0
WereHadIn filled pins hads =
    (i : ℕ) (c : Contents) (had : Vec (Option Pin)) → slice_get filled i ≡ Some c → slice_get hads i ≡ Some had
    → IsHadOf c (with_pins_of (take i filled) pins) had.items

-- ---- what is held of their keys

-- each was compared with what is held, and fits
abbrev pub WereCompared : ℕ → Option PlaceMap → ((List ℕ → Type 0) → Type 0) → List Contents → Type 0
WereCompared size known shown filled = AllByRecursion (WasCompared size known shown) filled

-- the copies of the first containers, each of which fits
abbrev pub FitIn : ℕ → Option PlaceMap → ((List ℕ → Type 0) → Type 0) → List Contents → List (Vec (Option Place)) → Type 0
FitIn size known shown filled befores =
    (i : ℕ) (c : Contents) (before : Vec (Option Place)) → slice_get filled i ≡ Some c → slice_get befores i ≡ Some before
    → FitSoFar size known shown c.kind c.segments before.items

-- the first segment, of the first container that has one, of which another copy is held: all before it were compared, and fit
pub record IsFirstUnlikeIn (size : ℕ) (known : Option PlaceMap) (shown : (List ℕ → Type 0)
    → Type 0) (filled : List Contents) (refusal : Refusal)
    : Type 0 where
  pub number : ℕ
  pub contents : Contents
  pub contents_are : slice_get filled number ≡ Some contents
  pub before : WereCompared size known shown (take number filled)
  pub unlike : IsFirstUnlike size known shown contents.kind contents.segments refusal

-- what comparing showed where they are not sealed: all fitted where a write failed, and else the first that has another copy
abbrev pub AreCompared : ℕ → Option PlaceMap → ((List ℕ → Type 0) → Type 0) → List Contents → Refusal → Type 0
AreCompared size known shown filled DiskWrite = WereCompared size known shown filled
AreCompared size known shown filled refusal = IsFirstUnlikeIn size known shown filled refusal

-- ---- why none is sealed

-- why there is no slot for any: as of one, or there is no memory
abbrev pub IsSlotsRefusal : Tables → ℕ → Refusal → Type 0
IsSlotsRefusal t size Memory = Unit {0}
IsSlotsRefusal t size refusal = IsSlotRefusal t size refusal

-- In this order: the actor, which looks at all that is offered; a slot, an id; what is held, or the disk, of those that would be sealed.
-- Want of memory is free.
abbrev pub IsOfferRefusal : Part → Tables → ℕ → Option PlaceMap → List Contents → (List Contents → Refusal → Type 0) → Refusal → Type 0
IsOfferRefusal part t size known filled compared Memory = Unit {0}
IsOfferRefusal part t size known filled compared (WrongPart kind) = IsUnkeptIn part filled (WrongPart kind)
IsOfferRefusal part t size known filled compared (Unpinned key) = IsUnkeptIn part filled (Unpinned key)
IsOfferRefusal part t size known filled compared (Full free) = MayKeepAll part filled × IsSlotRefusal t size (Full free)
IsOfferRefusal part t size known filled compared Numbers = MayKeepAll part filled × IsSlotRefusal t size Numbers
IsOfferRefusal part t size known filled compared refusal =
    MayKeepAll part filled
    × ((slots : List ℕ) × HasSlots t (length filled) slots × IsSealRefusal known (compared (take (length slots) filled)) refusal)
