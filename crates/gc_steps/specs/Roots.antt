-- What is live when a collection begins (docs/MODEL.md, 'Collection').
use Rattle.std.specs.Prelude.{◌≡◌, ◌≢◌, ◌⊎◌, ◌↔◌, ◌<◌, ◌==◌, ℕ, zero, suc, nat_lt, if◌then◌else◌, List, [], ◌∷◌, ◌++◌, Option, None, Some}
use Rattle.std.specs.List.{flat_map}
use Rattle.std.specs.FinMap as finite
use Rattle.actor_parts.specs.declared.actor.TheConstants.{ACTORS}
use Rattle.actor_parts.specs.declared.part.Part.{Part}
use Rattle.actor_parts.specs.declared.part.Part.TheVariants.{Idle, Writing, Reading}
use Rattle.actor_parts.specs.declared.pins.Pin.{Pin}
use Rattle.actor_parts.specs.Parts.{part_of}
use Rattle.actor_parts.specs.PinMap.{PinMap}
use Rattle.container_meta.specs.declared.place.Place.{Place}
use Rattle.disk_format.specs.Cells.{Root}
use Rattle.gc_enumerate.specs.Live.{LiveKeys, IsLiveAt}
use Rattle.namespace.specs.Listing.{NamedRoot, listing_of}
use Rattle.namespace.specs.Names.{NameMap}
use Rattle.store_model.specs.Refusals.{root_key}
use Rattle.gc_steps.specs.declared.roots.RootKey.{RootKey}

-- the key of a root; the empty file has none
abbrev pub HasRootKey : Root → List ℕ → Type 0
HasRootKey root key = (root.length ≢ 0) × (key ≡ root_key root)

-- the key of one of these roots
abbrev pub IsListedKey : List NamedRoot → List ℕ → Type 0
IsListedKey [] key = ⊥
IsListedKey (n ∷ ns) key = HasRootKey n.root key ⊎ IsListedKey ns key

-- the key of the root of a name
abbrev pub IsNameKey : NameMap → List ℕ → Type 0
IsNameKey names key = IsListedKey (listing_of names) key

-- a key that an actor holds: a pin, or that of the root of the file that it reads
abbrev pub IsPartKey : Part → List ℕ → Type 0
IsPartKey Idle key = ⊥
IsPartKey (Writing pins) key = (pin : Pin) × (finite.get pins key ≡ Some pin)
IsPartKey (Reading reader) key = HasRootKey reader.root key

-- of a number, if it is an actor's; and of all
abbrev pub IsNumberKey : List Part → ℕ → List ℕ → Type 0
IsNumberKey parts actor key = (actor < ACTORS) × IsPartKey (part_of parts actor) key

abbrev pub IsActorKey : List Part → List ℕ → Type 0
IsActorKey parts key = (actor : ℕ) × IsNumberKey parts actor key

-- The roots of a collection: the root keys of all names and of all readers, and all pins.
abbrev pub IsRoot : NameMap → List Part → List ℕ → Type 0
IsRoot names parts key = IsNameKey names key ⊎ IsActorKey parts key

-- ---- in the order in which they are looked up, each with the level that is said of its segment where it is named

-- a list of them
abbrev pub RootKeys : Type 0
RootKeys = List RootKey

-- the root of a file, if it has a key
abbrev pub keys_of_root : Root → List RootKey
keys_of_root root = if root.length == 0 then [] else record { key = root_key root; level = root.level } ∷ []

abbrev pub keys_of_listed : NamedRoot → List RootKey
keys_of_listed n = keys_of_root n.root

-- a pin of this key, if there is one
abbrev pub keys_as_pinned : List ℕ → Option Pin → List RootKey
keys_as_pinned key None = []
keys_as_pinned key (Some pin) = record { key = key; level = pin.level } ∷ []

abbrev pub keys_of_pin : PinMap → List ℕ → List RootKey
keys_of_pin pins key = keys_as_pinned key (finite.get pins key)

-- what an actor holds; what that of a number does, if there is such an actor; and those of so many numbers from 0 on
abbrev pub keys_of_part : Part → List RootKey
keys_of_part Idle = []
keys_of_part (Writing pins) = flat_map (keys_of_pin pins) (finite.keys pins)
keys_of_part (Reading reader) = keys_of_root reader.root

abbrev pub keys_of_number : List Part → ℕ → List RootKey
keys_of_number parts actor = if nat_lt actor ACTORS then keys_of_part (part_of parts actor) else []

unfoldable pub keys_of_first : List Part → ℕ → List RootKey
keys_of_first parts zero = []
keys_of_first parts (suc count) = keys_of_first parts count ++ keys_of_number parts count

-- All of them: names by their bytes, then actors by number, and the pins of an actor by key.
abbrev pub keys_of_names : NameMap → List RootKey
keys_of_names names = flat_map keys_of_listed (listing_of names)

abbrev pub roots_of : NameMap → List Part → List RootKey
roots_of names parts = keys_of_names names ++ keys_of_first parts ACTORS

abbrev pub key_at : RootKey → List ℕ
key_at root = root.key

-- ---- what becomes live

-- Just the keys of which P holds became live.
abbrev pub Marks : (List ℕ → Type 0) → LiveKeys → LiveKeys → Type 0
Marks P old new = (key : List ℕ) (place : Place) → IsLiveAt new key place ↔ (IsLiveAt old key place ⊎ P key)
