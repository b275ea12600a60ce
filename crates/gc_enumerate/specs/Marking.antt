-- What a scan of a container marks (docs/MODEL.md, 'Marking').
use Rattle.std.specs.Prelude.{◌≡◌, ◌⊎◌, ◌↔◌, ℕ, ◌-◌, List, [], ◌∷◌, ◌++◌, Option, Some, take}
use Rattle.std.specs.FinMap as finite
use Rattle.std.specs.List.{All, Contains, flat_map}
use Rattle.container_meta.specs.declared.entry.Entry.{Entry}
use Rattle.container_meta.specs.declared.place.Place.{Place}
use Rattle.container_meta.specs.Places.{PlaceMap}
use Rattle.merkle_file.specs.Node.{Contents}
use Rattle.gc_enumerate.specs.declared.fault.ScanFault.{ScanFault}
use Rattle.gc_enumerate.specs.declared.fault.ScanFault.TheVariants.{Memory}
use Rattle.gc_enumerate.specs.declared.layer.KeyPlace.{KeyPlace}
use Rattle.gc_enumerate.specs.Copies.{KnownMap, IsPlaceOf}
use Rattle.gc_enumerate.specs.Live.{LiveKeys, IsLiveAt, SharesMark}
use Rattle.gc_enumerate.specs.Scanning.{Scan, IsToScan, IsNodeOf, FindsChildren, child_keys}

-- a key with its place shares the mark of one of these
abbrev pub IsAmong : List ℕ → Place → List KeyPlace → Type 0
IsAmong key place [] = ⊥
IsAmong key place (f ∷ fs) = SharesMark key place f.key f.place ⊎ IsAmong key place fs

-- These keys became live, and no others.
abbrev pub AddsMarks : List KeyPlace → LiveKeys → LiveKeys → Type 0
AddsMarks marked old new = (key : List ℕ) (place : Place) → IsLiveAt new key place ↔ (IsLiveAt old key place ⊎ IsAmong key place marked)

-- Some of these keys did, the first ones, and no others.
abbrev pub AddsSome : List KeyPlace → LiveKeys → LiveKeys → Type 0
AddsSome found old new = (marked : List KeyPlace) × ((others : List KeyPlace) × ((found ≡ marked ++ others) × AddsMarks marked old new))

-- no two keys have one place
abbrev pub IsOneToOne : PlaceMap → Type 0
IsOneToOne m = (key other : List ℕ) (place there : Place) → finite.get m key ≡ Some place → finite.get m other ≡ Some there
    → place.slot ≡ there.slot → place.offset ≡ there.offset → key ≡ other

-- A key that the index has is live then exactly where it was, or is one of these.
abbrev pub AddsKeys : PlaceMap → List (List ℕ) → LiveKeys → LiveKeys → Type 0
AddsKeys m keys old new = (key : List ℕ) (place : Place) → finite.get m key ≡ Some place
    → IsLiveAt new key place ↔ (IsLiveAt old key place ⊎ Contains keys key)

-- Just the children of the nodes of these entries became live: of each entry that is to be scanned, and of no other.
pub record MarksChildren (s : Scan) (showed : Place → List ℕ → Type 0) (entries : List Entry) (new : LiveKeys) : Type 0 where
  pub found : List KeyPlace
  pub finds : FindsChildren s showed entries found
  pub marks : AddsMarks found s.live new
  -- so of the keys of an index in which no two have one place
  pub exact : KnownMap s.known (λ m. IsOneToOne m → AddsKeys m (flat_map child_keys finds.nodes) s.live new)

-- Some of them did, of some of the entries.
pub record MarksSome (s : Scan) (showed : Place → List ℕ → Type 0) (entries : List Entry) (new : LiveKeys) : Type 0 where
  pub count : ℕ
  pub found : List KeyPlace
  pub finds : FindsChildren s showed (take count entries) found
  pub marks : AddsSome found s.live new

-- A key is live, and the index, where its map is known, has it at a place of this level.
abbrev pub IsLiveOf : Option PlaceMap → LiveKeys → ℕ → List ℕ → Type 0
IsLiveOf known live level key = (place : Place) × (IsPlaceOf known key place × IsLiveAt live key place × (place.level ≡ level))

-- An entry that is to be scanned has a node whose children are live, and which the index has at the level below.
abbrev pub HasLiveChildren : Scan → (Place → List ℕ → Type 0) → LiveKeys → Entry → Type 0
HasLiveChildren s showed new e =
    IsToScan s e → (n : Contents) × (IsNodeOf s.layer showed e n × All (IsLiveOf s.known new (n.level - 1)) (child_keys n))

-- Where the map is known, each such entry has.
abbrev pub ChildrenAreLive : Scan → (Place → List ℕ → Type 0) → List Entry → LiveKeys → Type 0
ChildrenAreLive s showed entries new = KnownMap s.known (λ m. All (HasLiveChildren s showed new) entries)

-- What is live once a scan is refused: what was; but some of the children too, where memory ran out.
abbrev pub LeavesMarks : Scan → (Place → List ℕ → Type 0) → List Entry → LiveKeys → ScanFault → Type 0
LeavesMarks s showed entries new Memory = MarksSome s showed entries new
LeavesMarks s showed entries new fault = new ≡ s.live
