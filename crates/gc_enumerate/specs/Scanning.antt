-- What a scan of a container finds: the children of the nodes that it reads (docs/MODEL.md, 'Marking').
use Rattle.std.specs.Prelude.{◌≡◌, ◌≢◌, ◌⊎◌, ℕ, ◌+◌, ◌-◌, ◌==◌, if◌then◌else◌, Bool, true, false, List, [], ◌∷◌, ◌++◌, length, map, Option, None}
use Rattle.std.specs.FinMap as finite
use Rattle.std.specs.List.{All, flat_map}
use Rattle.sha2.specs.Sha256.{sha256}
use Rattle.base_model.specs.Bytes.{byte_at, key_of}
use Rattle.disk_format.specs.Layout.{data_at}
use Rattle.disk_format.specs.declared.why.Why.{Why}
use Rattle.disk_format.specs.declared.why.Why.TheVariants.{Digest, Field}
use Rattle.container_meta.specs.declared.entry.Entry.{Entry}
use Rattle.container_meta.specs.declared.entry.Meta.{Meta}
use Rattle.container_meta.specs.declared.kind.Kind.{Kind}
use Rattle.container_meta.specs.declared.kind.Kind.TheVariants.{Leaf, Tree}
use Rattle.container_meta.specs.declared.place.Place.{Place}
use Rattle.container_meta.specs.Format.{kind_byte}
use Rattle.container_meta.specs.Places.{PlaceMap}
use Rattle.merkle_file.specs.declared.fault.FieldFault.{FieldFault}
use Rattle.merkle_file.specs.declared.node.Child.{Child}
use Rattle.merkle_file.specs.Node.{Contents, IsNode, node_digest, spelling}
use Rattle.merkle_file.specs.Reading.{any_node, first_fault, wrong}
use Rattle.gc_enumerate.specs.declared.fault.ScanFault.{ScanFault}
use Rattle.gc_enumerate.specs.declared.fault.ScanFault.TheVariants.{DiskRead, Corrupt, Missing, Damaged, Memory}
use Rattle.gc_enumerate.specs.declared.layer.Layer.{Layer}
use Rattle.gc_enumerate.specs.declared.layer.KeyPlace.{KeyPlace}
use Rattle.gc_enumerate.specs.Copies.{KnownMap, IsPlaceOf}
use Rattle.gc_enumerate.specs.Faults.{IsCorrupt}
use Rattle.gc_enumerate.specs.Live.{LiveKeys, IsLiveAt}

-- ---- what is to be scanned

-- what a scan begins with: the map of the index, where it is known, the live keys, and which segments of a container it is for
pub record Scan : Type 0 where
  pub known : Option PlaceMap
  pub live : LiveKeys
  pub layer : Layer

abbrev pub scan_of : Option PlaceMap → LiveKeys → Layer → Scan
scan_of known live layer = record { known = known; live = live; layer = layer }

abbrev pub scan_in : Option PlaceMap → LiveKeys → ℕ → Meta → ℕ → Scan
scan_in known live slot meta level = scan_of known live (record { slot = slot; kind = meta.kind; level = level })

-- the key of an entry's segment, and where it lies
abbrev pub entry_key : Layer → Entry → List ℕ
entry_key layer e = key_of (kind_byte layer.kind) e.digest

abbrev pub place_in : Layer → Entry → Place
place_in layer e = record { slot = layer.slot; offset = e.offset; length = e.length; level = e.level }

-- an entry of the level that is live, so the index is asked for it
pub record IsAsked (s : Scan) (e : Entry) : Type 0 where
  pub level_is : e.level ≡ s.layer.level
  pub live : IsLiveAt s.live (entry_key s.layer e) (place_in s.layer e)

-- such an entry that is the copy that the index has
pub record IsToScan (s : Scan) (e : Entry) : Type 0 where
  pub level_is : e.level ≡ s.layer.level
  pub live : IsLiveAt s.live (entry_key s.layer e) (place_in s.layer e)
  pub copy : IsPlaceOf s.known (entry_key s.layer e) (place_in s.layer e)

-- where the map is known, the entry is not such a one
abbrev pub IsPassedOver : Scan → Entry → Type 0
IsPassedOver s e = KnownMap s.known (λ m. IsToScan s e → ⊥)

-- whether it is to be scanned
abbrev pub IsDecided : Scan → Entry → Bool → Type 0
IsDecided s e true = IsToScan s e
IsDecided s e false = IsPassedOver s e

-- ---- nodes and their children

-- A node of the level has the digest and the length of an entry, and reads showed its bytes where the entry's segment lies.
pub record IsNodeOf (layer : Layer) (showed : Place → List ℕ → Type 0) (e : Entry) (n : Contents) : Type 0 where
  pub right : IsNode n
  pub level_is : n.level ≡ layer.level
  pub digest_is : node_digest n ≡ e.digest
  pub long : length (spelling n) ≡ e.length
  pub shown : showed (place_in layer e) (spelling n)

-- the children of a node of level 1 are data, those of any other are nodes
abbrev pub child_kind : ℕ → Kind
child_kind level = if level == 1 then Leaf else Tree

abbrev pub child_key : ℕ → Child → List ℕ
child_key level c = key_of (kind_byte (child_kind level)) c.digest

abbrev pub child_keys : Contents → List (List ℕ)
child_keys n = map (child_key n.level) n.children

-- These are the nodes of those entries that are to be scanned, in order.
abbrev pub HaveNodes : Scan → (Place → List ℕ → Type 0) → List Entry → List Contents → Type 0
HaveNodes s showed [] nodes = nodes ≡ []
HaveNodes s showed (e ∷ es) nodes =
    (IsPassedOver s e × HaveNodes s showed es nodes)
    ⊎ ((n : Contents) × ((rest : List Contents)
    × ((nodes ≡ n ∷ rest) × IsToScan s e × IsNodeOf s.layer showed e n × HaveNodes s showed es rest)))

-- the index has this place for the key, and a segment of this level lies there
abbrev pub IsPlacedAt : Option PlaceMap → ℕ → KeyPlace → Type 0
IsPlacedAt known level f = IsPlaceOf known f.key f.place × (f.place.level ≡ level)

-- the index has these places for these keys, each of this level
abbrev pub ArePlaced : Option PlaceMap → ℕ → List KeyPlace → Type 0
ArePlaced known level found = All (IsPlacedAt known level) found

abbrev pub keys_of : List KeyPlace → List (List ℕ)
keys_of found = map (λ f. f.key) found

-- These are the children of the nodes of entries, each with the place that the index has for it: one of the level below.
pub record FindsChildren (s : Scan) (showed : Place → List ℕ → Type 0) (entries : List Entry) (found : List KeyPlace) : Type 0 where
  pub nodes : List Contents
  pub nodes_are : HaveNodes s showed entries nodes
  pub keys_are : keys_of found ≡ flat_map child_keys nodes
  pub placed : ArePlaced s.known (s.layer.level - 1) found

-- ---- why a container is not scanned

-- the first field, in order of offset, for which bytes are no node of a level
abbrev pub node_fault : ℕ → List ℕ → Option FieldFault
node_fault level bytes = if byte_at 0 bytes == level then first_fault any_node bytes else wrong 0 (byte_at 0 bytes)

abbrev pub IsNodeFault : ℕ → List ℕ → Why → Type 0
IsNodeFault level bytes (Field offset got) = node_fault level bytes ≡ wrong offset got
IsNodeFault level bytes (Digest want got) = ⊥

-- Reads showed bytes of an entry's digest and length where its segment lies, at this byte of the disk, and they are no node of the level.
pub record IsNoNode (layer : Layer) (showed : Place → List ℕ → Type 0) (e : Entry) (at : ℕ) (why : Why) : Type 0 where
  pub bytes : List ℕ
  pub long : length bytes ≡ e.length
  pub shown : showed (place_in layer e) bytes
  pub digest_is : sha256 bytes ≡ e.digest
  pub at_is : at ≡ data_at layer.slot + e.offset
  pub wrong_is : IsNodeFault layer.level bytes why

-- The index has the key where a segment of another level lies, at this byte of the disk: so the level is the field that is wrong.
pub record IsMisplaced (known : Option PlaceMap) (level : ℕ) (key : List ℕ) (at : ℕ) (why : Why) : Type 0 where
  pub place : Place
  pub place_is : IsPlaceOf known key place
  pub differs : place.level ≢ level
  pub at_is : at ≡ data_at place.slot + place.offset

-- A child of a node has this key, and the index has all children before it at their level.
pub record ComesTo (known : Option PlaceMap) (n : Contents) (key : List ℕ) : Type 0 where
  pub before : List KeyPlace
  pub after : List (List ℕ)
  pub keys_are : child_keys n ≡ keys_of before ++ key ∷ after
  pub placed : ArePlaced known (n.level - 1) before

-- It is the first that the index, where its map is known, doesn't have.
pub record LacksChild (known : Option PlaceMap) (n : Contents) (key : List ℕ) : Type 0 where
  pub comes : ComesTo known n key
  pub missing : KnownMap known (λ m. finite.get m key ≡ None)

-- It is the first that the index has at another level.
pub record MisplacesChild (known : Option PlaceMap) (n : Contents) (at : ℕ) (why : Why) : Type 0 where
  pub key : List ℕ
  pub comes : ComesTo known n key
  pub misplaced : IsMisplaced known (n.level - 1) key at why

-- why the node of an entry is not given
abbrev pub IsUnread : Layer → (Place → List ℕ → Type 0) → Entry → ScanFault → Type 0
IsUnread layer showed e Memory = Unit {0}
IsUnread layer showed e DiskRead = Unit {0}
IsUnread layer showed e (Corrupt slot offset count want got) = IsCorrupt showed (place_in layer e) e.digest slot offset count want got
IsUnread layer showed e (Damaged at why) = IsNoNode layer showed e at why
IsUnread layer showed e fault = ⊥

-- why the place of a key that a level is named for is not given
abbrev pub IsUnplaced : Option PlaceMap → (ℕ → Why → Type 0) → ℕ → List ℕ → ScanFault → Type 0
IsUnplaced known damaged level key DiskRead = Unit {0}
IsUnplaced known damaged level key (Missing k) = (k ≡ key) × KnownMap known (λ m. finite.get m key ≡ None)
IsUnplaced known damaged level key (Damaged at why) = damaged at why ⊎ IsMisplaced known level key at why
IsUnplaced known damaged level key fault = ⊥

-- why the places of a node's children are not given
abbrev pub IsChildFault : Option PlaceMap → (ℕ → Why → Type 0) → Contents → ScanFault → Type 0
IsChildFault known damaged n Memory = Unit {0}
IsChildFault known damaged n DiskRead = Unit {0}
IsChildFault known damaged n (Missing key) = LacksChild known n key
IsChildFault known damaged n (Damaged at why) = damaged at why ⊎ MisplacesChild known n at why
IsChildFault known damaged n fault = ⊥

-- Why an entry is not scanned. A failed read, or damage of the index, comes of a live one of the level alone; all else, but want of
-- memory, of one that is to be scanned.
abbrev pub IsEntryFault : Scan → (Place → List ℕ → Type 0) → (ℕ → Why → Type 0) → Entry → ScanFault → Type 0
IsEntryFault s showed damaged e Memory = Unit {0}
IsEntryFault s showed damaged e DiskRead = IsAsked s e
IsEntryFault s showed damaged e (Corrupt slot offset count want got) =
    IsToScan s e × IsCorrupt showed (place_in s.layer e) e.digest slot offset count want got
IsEntryFault s showed damaged e (Missing key) =
    (n : Contents) × (IsToScan s e × IsNodeOf s.layer showed e n × LacksChild s.known n key)
IsEntryFault s showed damaged e (Damaged at why) =
    (IsAsked s e × damaged at why)
    ⊎ (IsToScan s e × IsNoNode s.layer showed e at why)
    ⊎ ((n : Contents) × (IsToScan s e × IsNodeOf s.layer showed e n × MisplacesChild s.known n at why))

-- A scan came to an entry that is not scanned. Of those before it the index has all children, at their level.
pub record IsStuck (s : Scan) (showed : Place → List ℕ → Type 0) (damaged : ℕ → Why → Type 0) (entries : List Entry) (fault : ScanFault)
    : Type 0 where
  pub before : List Entry
  pub at : Entry
  pub after : List Entry
  pub entries_are : entries ≡ before ++ at ∷ after
  pub found : List KeyPlace
  pub passed : FindsChildren s showed before found
  pub cause : IsEntryFault s showed damaged at fault

-- Why a container is not scanned. Want of memory is the one free answer.
abbrev pub IsScanFault : Scan → (Place → List ℕ → Type 0) → (ℕ → Why → Type 0) → List Entry → ScanFault → Type 0
IsScanFault s showed damaged entries Memory = Unit {0}
IsScanFault s showed damaged entries fault = IsStuck s showed damaged entries fault
