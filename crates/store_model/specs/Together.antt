-- Several containers that are sealed together, and what a crash leaves of them (docs/MODEL.md, 'Containers').
use Rattle.std.specs.Prelude.{◌≡◌, ◌≢◌, ◌⊎◌, ◌<◌, ℕ, Bool, true, false, List, [], ◌∷◌, Some, None, slice_get}
use Rattle.std.specs.List.{AllByRecursion}
use Rattle.base_model.specs.Frames.{SameOutside}
use Rattle.disk_format.specs.declared.numbers.TheConstants.{SLOT_BYTES}
use Rattle.disk_format.specs.Layout.{slot_at}
use Rattle.container_meta.specs.declared.kind.Kind.{Kind}
use Rattle.container_meta.specs.declared.kind.Kind.TheVariants.{Leaf}
use Rattle.container_meta.specs.Segments.{Segment}
use Rattle.container_meta.specs.Spelling.{IsHeader, header_of}
use Rattle.store_model.specs.Collisions.{Stands}
use Rattle.store_model.specs.Files.{Files}
use Rattle.store_model.specs.Image.{Store}
use Rattle.store_model.specs.Slots.{HoldsSlot, HoldsContainer, with_slot, first_free}
use Rattle.store_model.specs.Steps.{MaySeal, with_sealed}

-- a container, and the slot that it is for
pub record Placed : Type 0 where
  pub slot : ℕ
  pub id : ℕ
  pub kind : Kind
  pub segments : List Segment

-- the slot is closed
abbrev pub IsClosed : Store → ℕ → Type 0
IsClosed store slot = slice_get store.held slot ≡ Some None

-- ---- the store with some of them

abbrev pub with_placed : Placed → Store → Store
with_placed p store = record store { held = with_slot p.slot (header_of p.id p.kind p.segments) store.held }

-- with those that are marked
abbrev pub with_some : List Bool → List Placed → Store → Store
with_some [] ps store = store
with_some (mark ∷ marks) [] store = store
with_some (true ∷ marks) (p ∷ ps) store = with_some marks ps (with_placed p store)
with_some (false ∷ marks) (p ∷ ps) store = with_some marks ps store

-- with all
abbrev pub with_all : List Placed → Store → Store
with_all [] store = store
with_all (p ∷ ps) store = with_all ps (with_placed p store)

-- with all, sealed one after the other
abbrev pub with_all_sealed : List Placed → Store → Store
with_all_sealed [] store = store
with_all_sealed (p ∷ ps) store = with_all_sealed ps (with_sealed p.id p.kind p.segments store)

-- an image of the store with some of them, whichever
abbrev pub StandsSome : (List ℕ → Type 0) → List Placed → Store → Files → List ℕ → Type 0
StandsSome S ps store files image = (marks : List Bool) × Stands S (with_some marks ps store) files image

-- ---- when they can be placed

-- Each is for a closed slot of its own, under an id above those before it and above all that are there.
abbrev pub CanPlace : ℕ → List Placed → Store → Type 0
CanPlace last [] store = Unit {0}
CanPlace last (p ∷ ps) store =
    IsClosed store p.slot × (last < p.id) × IsHeader (header_of p.id p.kind p.segments)
    × AllByRecursion (λ q. q.slot ≢ p.slot) ps × CanPlace p.id ps store

-- Each has data that may be sealed. Of nodes it would have to be asked that no two containers have one key.
abbrev pub MayPlace : (List ℕ → Type 0) → List Placed → Type 0
MayPlace S ps = AllByRecursion (λ p. (p.kind ≡ Leaf) × AllByRecursion (MaySeal S p.kind) p.segments) ps

-- each is for the closed slot of least number that the ones before it leave
abbrev pub AreFirstFree : List Placed → Store → Type 0
AreFirstFree [] store = Unit {0}
AreFirstFree (p ∷ ps) store = (p.slot ≡ first_free store.held) × AreFirstFree ps (with_placed p store)

-- their ids rise, from above one on, and their headers are right
abbrev pub IdsRise : ℕ → List Placed → Type 0
IdsRise last [] = Unit {0}
IdsRise last (p ∷ ps) = (last < p.id) × IsHeader (header_of p.id p.kind p.segments) × IdsRise p.id ps

-- ---- what is left of them in an image

-- the slot has its container
abbrev pub IsThere : Placed → List ℕ → Type 0
IsThere p image = HoldsContainer image p.slot p.id p.kind p.segments

-- it is closed, or has it
abbrev pub IsLeft : Placed → List ℕ → Type 0
IsLeft p image = HoldsSlot image p.slot None ⊎ IsThere p image

-- the slots were written to, one after the other, and once it was, P holds of each; all else stays
abbrev pub AreLeftSo : (Placed → List ℕ → Type 0) → List Placed → List ℕ → List ℕ → Type 0
AreLeftSo P [] old new = new ≡ old
AreLeftSo P (p ∷ ps) old new = (mid : List ℕ) × SameOutside (slot_at p.slot) SLOT_BYTES old mid × P p mid × AreLeftSo P ps mid new
