-- The places of several containers, put into an index together, or taken back (docs/MODEL.md, 'The running store').
use Rattle.std.specs.Prelude.{◌≡◌, ◌≢◌, ◌⊎◌, ℕ, List, [], ◌∷◌, length, slice_get, IsSome, IfSome, Option, Some}
use Rattle.std.specs.Global.{Vec}
use Rattle.std.specs.FinMap as finite
use Rattle.std.specs.List.{AllByRecursion}
use Rattle.container_meta.specs.declared.entry.Entry.{Entry}
use Rattle.container_meta.specs.declared.kind.Kind.{Kind}
use Rattle.container_meta.specs.declared.place.Place.{Place}
use Rattle.container_meta.specs.Places.{PlaceMap}
use Rattle.container_meta.specs.Segments.{Contents, entries_from}
use Rattle.segment_index.specs.Places.{KnownMap, IsPlace}
use Rattle.store_model.specs.Indexing.{entry_key, with_entries}
use Rattle.store_state.specs.Indexing.{AreHad, HaveHad}

-- ---- which keys

-- none of the entries has the key
abbrev pub Lacks : Kind → List Entry → List ℕ → Type 0
Lacks kind entries key = AllByRecursion (λ e. entry_key kind e ≢ key) entries

-- no container has it
abbrev pub LacksIn : List Contents → List ℕ → Type 0
LacksIn filled key = AllByRecursion (λ c. Lacks c.kind (entries_from 0 c.segments) key) filled

-- ---- what is put

-- the map with the places of containers, each in its slot, one after the other
abbrev pub with_contents : List ℕ → List Contents → PlaceMap → PlaceMap
with_contents [] filled m = m
with_contents (slot ∷ slots) [] m = m
with_contents (slot ∷ slots) (c ∷ cs) m = with_contents slots cs (with_entries c.kind slot (entries_from 0 c.segments) m)

-- a map has a place of each key of which the base has one
abbrev pub Covers : PlaceMap → PlaceMap → Type 0
Covers base m = (key : List ℕ) → IsSome (finite.get base key) → IsSome (finite.get m key)

-- So it does, and of each key of which P holds it has what the base has.
pub record IsOver (P : List ℕ → Type 0) (base m : PlaceMap) : Type 0 where
  pub same : (key : List ℕ) → P key → finite.get m key ≡ finite.get base key
  pub covers : Covers base m

-- places of some of the entries were put
abbrev pub PutSome : Kind → List Entry → Option PlaceMap → Option PlaceMap → Type 0
PutSome kind entries old new = KnownMap old (λ m. (r : PlaceMap) × (new ≡ Some r) × IsOver (Lacks kind entries) m r)

-- ---- what was there

-- what the base has of the keys of each container
abbrev pub HaveHadIn : PlaceMap → List Contents → List (Vec (Option Place)) → Type 0
HaveHadIn base filled befores =
    (i : ℕ) (c : Contents) (before : Vec (Option Place)) → slice_get filled i ≡ Some c → slice_get befores i ≡ Some before
    → HaveHad base c.kind (entries_from 0 c.segments) before.items

abbrev pub AreHadIn : ℕ → Option PlaceMap → List Contents → List (Vec (Option Place)) → Type 0
AreHadIn size known filled befores =
    (i : ℕ) (c : Contents) (before : Vec (Option Place)) → slice_get filled i ≡ Some c → slice_get befores i ≡ Some before
    → AreHad size known c.kind (entries_from 0 c.segments) before.items

-- as many places as each container has entries, each where a segment may lie
abbrev pub AreListed : ℕ → List Contents → List (Vec (Option Place)) → Type 0
AreListed size filled befores =
    (i : ℕ) (c : Contents) (before : Vec (Option Place)) → slice_get filled i ≡ Some c → slice_get befores i ≡ Some before
    → (length before.items ≡ length (entries_from 0 c.segments)) × AllByRecursion (λ had. IfSome had (IsPlace size)) before.items

-- a map over a base which has these of the keys of containers
abbrev pub IsOverIn : List Contents → List (Vec (Option Place)) → PlaceMap → Type 0
IsOverIn filled befores m = (base : PlaceMap) × HaveHadIn base filled befores × IsOver (LacksIn filled) base m

-- ---- what is taken back

-- Of each key a map has what the base has; or P holds of it, and it has what it had.
abbrev pub IsRestored : (List ℕ → Type 0) → PlaceMap → PlaceMap → PlaceMap → Type 0
IsRestored P base m r = (key : List ℕ) → (finite.get r key ≡ finite.get base key) ⊎ (P key × (finite.get r key ≡ finite.get m key))

-- a map that covers a base which has these of the keys of entries
abbrev pub IsCovered : Kind → List Entry → List (Option Place) → PlaceMap → Type 0
IsCovered kind entries hads m = (base : PlaceMap) × HaveHad base kind entries hads × Covers base m

abbrev pub IsCoveredIn : List Contents → List (Vec (Option Place)) → PlaceMap → Type 0
IsCoveredIn filled befores m = (base : PlaceMap) × HaveHadIn base filled befores × Covers base m

-- each of those keys is given what the base has
abbrev pub Restores : Kind → List Entry → List (Option Place) → Option PlaceMap → Option PlaceMap → Type 0
Restores kind entries hads old new =
    (base m : PlaceMap) → HaveHad base kind entries hads → Covers base m → old ≡ Some m
    → (r : PlaceMap) × (new ≡ Some r) × IsRestored (Lacks kind entries) base m r

abbrev pub RestoresIn : List Contents → List (Vec (Option Place)) → Option PlaceMap → Option PlaceMap → Type 0
RestoresIn filled befores old new =
    (base m : PlaceMap) → HaveHadIn base filled befores → Covers base m → old ≡ Some m
    → (r : PlaceMap) × (new ≡ Some r) × IsRestored (LacksIn filled) base m r

-- places were put over a base, and all are taken back
abbrev pub TakesAllBack : List Contents → List (Vec (Option Place)) → Option PlaceMap → Option PlaceMap → Type 0
TakesAllBack filled befores old new =
    (base m : PlaceMap) → HaveHadIn base filled befores → IsOver (LacksIn filled) base m → old ≡ Some m → new ≡ Some base
