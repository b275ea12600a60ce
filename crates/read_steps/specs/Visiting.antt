-- A walk that visits each node and each segment of a tree, and reads the nodes alone (docs/MODEL.md, 'Opening').
use Rattle.std.specs.Prelude.{◌≡◌, ◌⊎◌, ◌≤◌, ◌+◌, ◌*◌, ℕ, List, [], ◌∷◌, ◌++◌, map, sum_by, Option, Result, Ok, Err}
use Rattle.std.specs.List.{Contains}
use Rattle.dd_disk.specs.View.{DiskView}
use Rattle.disk_format.specs.declared.why.Why.{Why}
use Rattle.container_meta.specs.declared.place.Place.{Place}
use Rattle.container_meta.specs.Places.{PlaceMap}
use Rattle.container_meta.specs.Spelling.{HeaderValue}
use Rattle.merkle_file.specs.declared.top.Top.{Top}
use Rattle.merkle_file.specs.Tree.{Tree}
use Rattle.merkle_file.specs.Reading.{contents_in}
use Rattle.merkle_file.specs.Walk.{opened, start_of}
use Rattle.namespace.specs.Listing.{NamedRoot}
use Rattle.refusals.specs.declared.refusal.Refusal.{Refusal}
use Rattle.refusals.specs.declared.refusal.Refusal.TheVariants.{DiskRead}
use Rattle.segment_index.specs.Places.{IsPlace}
use Rattle.store_model.specs.Collisions.{ByteSet}
use Rattle.read_steps.specs.Opening.{top_of}
use Rattle.read_steps.specs.Walking.{HeldAhead, IsLookupRefusal, IsNodeRead, IsPlaceOf, IsTopRefusal, WasRead, top_key}

-- the index, where its map is known, has a place for the key
abbrev pub HasPlace : Option PlaceMap → List ℕ → Type 0
HasPlace known key = (place : Place) × IsPlaceOf known key place

-- What comes first was visited: a segment, for whose key Q says that the index has a place, was passed; or a node, whose bytes P says
-- were read for its key, has put its children in its place.
abbrev pub VisitsTop : (List ℕ → List ℕ → Type 0) → (List ℕ → Type 0) → Top → List Top → List Top → Type 0
VisitsTop P Q t others after =
    ((t.level ≡ 0) × Q (top_key t) × (after ≡ others))
    ⊎ ((bytes : List ℕ) × (IsNodeRead P (t ∷ others) bytes × (after ≡ opened (contents_in bytes) ++ others)))

abbrev pub Visits : (List ℕ → List ℕ → Type 0) → (List ℕ → Type 0) → List Top → Top → List Top → Type 0
Visits P Q before t after = (others : List Top) × ((before ≡ t ∷ others) × VisitsTop P Q t others after)

-- These were visited, one after the other, and led from what was to come to what is.
abbrev pub VisitsTo : (List ℕ → List ℕ → Type 0) → (List ℕ → Type 0) → List Top → List Top → List Top → Type 0
VisitsTo P Q before [] after = after ≡ before
VisitsTo P Q before (t ∷ ts) after = (mid : List Top) × (Visits P Q before t mid × VisitsTo P Q mid ts after)

-- Each tree of these roots was visited whole, the first of them first.
abbrev pub VisitsRoots : (List ℕ → List ℕ → Type 0) → (List ℕ → Type 0) → List NamedRoot → List Top → Type 0
VisitsRoots P Q [] visited = visited ≡ []
VisitsRoots P Q (n ∷ ns) visited =
    (first : List Top) × ((rest : List Top) × ((visited ≡ first ++ rest) × VisitsTo P Q (start_of (top_of n.root)) first []
    × VisitsRoots P Q ns rest))

-- it is the key of one that was visited
abbrev pub IsVisited : List Top → List ℕ → Type 0
IsVisited visited key = Contains (map top_key visited) key

-- What comes first was visited, and the index has this place for its key.
abbrev pub VisitsPlaced : Option PlaceMap → DiskView → DiskView → List Top → List Top → Place → Type 0
VisitsPlaced known old new before after place =
    (t : Top) × (Visits (WasRead known old new) (HasPlace known) before t after × IsPlaceOf known (top_key t) place
    × IsPlace old.size place)

-- Why what comes first is not visited. A segment is passed unread, so of its key only the look-up can fail.
abbrev pub IsVisitRefusal : Option PlaceMap → (ℕ → Why → List ℕ → Type 0) → DiskView → DiskView → List Top → Refusal → Type 0
IsVisitRefusal known breaks old new [] refusal = ⊥
IsVisitRefusal known breaks old new (t ∷ ts) refusal =
    ((t.level ≡ 0) × IsLookupRefusal known breaks old new (top_key t) refusal)
    ⊎ ((1 ≤ t.level) × IsTopRefusal known breaks old new t refusal)

-- held trees are to come once it was visited; or a read failed
abbrev pub IsHeldVisit : ByteSet → List (Option HeaderValue) → List ℕ → List Top → Result (Option Place) Refusal → Type 0
IsHeldVisit counts held image after (Ok got) = (us : List (Tree (List ℕ))) × HeldAhead counts held image after us
IsHeldVisit counts held image after (Err refusal) = refusal ≡ DiskRead

-- It falls with each visit: a node has as many bytes as its children together, and each of these one or more.
abbrev pub steps_ahead : List Top → ℕ
steps_ahead ahead = sum_by (λ t. t.length * (t.level + 1) + 1) ahead
