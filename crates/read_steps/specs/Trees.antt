-- A walk over the trees of all names that notes the key of each node and each segment that it comes to (docs/MODEL.md, 'Opening').
use Rattle.std.specs.Prelude.{◌≡◌, ◌⊎◌, ℕ, zero, suc, List, [], ◌∷◌, ◌++◌, drop, Option, Some, None}
use Rattle.std.specs.FinMap as finite
use Rattle.std.specs.List.{AllByRecursion}
use Rattle.container_meta.specs.declared.place.Place.{Place}
use Rattle.container_meta.specs.Places.{PlaceMap}
use Rattle.container_meta.specs.Spelling.{HeaderValue}
use Rattle.dd_disk.specs.View.{DiskView}
use Rattle.merkle_file.specs.declared.top.Top.{Top}
use Rattle.merkle_file.specs.Tree.{Tree}
use Rattle.merkle_file.specs.Walk.{start_of}
use Rattle.namespace.specs.Listing.{NamedRoot}
use Rattle.store_model.specs.Collisions.{ByteSet}
use Rattle.read_steps.specs.Opening.{top_of}
use Rattle.read_steps.specs.Passed.{NodeSet, NotesNext, WasNoted}
use Rattle.read_steps.specs.Visiting.{HasPlace, IsVisitRefusal, IsVisited, VisitsPlaced, VisitsRoots, VisitsTo}
use Rattle.read_steps.specs.Walking.{HeldAhead, IsIndexed, WasRead, top_key}
use Rattle.refusals.specs.declared.refusal.Refusal.{Refusal}
use Rattle.refusals.specs.declared.refusal.Refusal.TheVariants.{Memory}

-- ---- what is noted

-- the key of what comes first
abbrev pub key_ahead : List Top → Option (List ℕ)
key_ahead [] = None
key_ahead (t ∷ ts) = Some (top_key t)

-- The keys of these were noted, one after the other, each with the place that the index has for it. R says what it is to note one.
abbrev pub NotesKeys : (M : Type 0) → (M → List ℕ → Place → M → Type 0) → PlaceMap → List Top → M → M → Type 0
NotesKeys M R index [] before after = after ≡ before
NotesKeys M R index (t ∷ ts) before after =
    (place : Place) × ((mid : M) × ((finite.get index (top_key t) ≡ Some place) × R before (top_key t) place mid
    × NotesKeys M R index ts mid after))

-- each key of the first is one of the second
abbrev pub AreAmong : List Top → List Top → Type 0
AreAmong some all = (key : List ℕ) → IsVisited some key → IsVisited all key

-- The trees of these roots were walked, and their keys noted: those of `noted`, which has all keys of what was visited, and no other. A
-- key may be noted more than once.
pub record NotesTrees (M : Type 0) (R : M → List ℕ → Place → M → Type 0) (index : PlaceMap) (old new : DiskView) (roots : List NamedRoot)
    (before after : M) : Type 0 where
  pub visited : List Top
  pub noted : List Top
  pub visits : VisitsRoots (WasRead (Some index) old new) (HasPlace (Some index)) roots visited
  pub notes : NotesKeys M R index noted before after
  pub all : AreAmong visited noted
  pub only : AreAmong noted visited

-- ---- a walk that passes the nodes that it came to before

-- where a walk is: what is to come, the nodes that it came to, and what was noted
pub record WalkState (M : Type 0) : Type 0 where
  pub ahead : List Top
  pub nodes : NodeSet
  pub notes : M

abbrev pub walk_state : (M : Type 0) → List Top → NodeSet → M → WalkState M
walk_state M ahead nodes notes = record { ahead = ahead; nodes = nodes; notes = notes }

-- One step. A node that it came to before, at the same level and length, is passed, with all that is below it. Else what comes first is
-- visited, a node is among those that it came to from then on, and the key is noted with its place. So each node is visited once.
abbrev pub TakesStep : (M : Type 0) → (M → List ℕ → Place → M → Type 0) → PlaceMap → DiskView → DiskView → WalkState M → WalkState M
    → Type 0
TakesStep M R index old new before after =
    (WasNoted before.nodes before.ahead × (after ≡ walk_state M (drop 1 before.ahead) before.nodes before.notes))
    ⊎ (NotesNext before.ahead before.nodes after.nodes
    × ((place : Place) × ((visits : VisitsPlaced (Some index) old new before.ahead after.ahead place)
    × R before.notes (top_key visits.0) place after.notes)))

abbrev pub TakesSteps : (M : Type 0) → (M → List ℕ → Place → M → Type 0) → PlaceMap → DiskView → DiskView → ℕ → WalkState M → WalkState M
    → Type 0
TakesSteps M R index old new zero before after = after ≡ before
TakesSteps M R index old new (suc n) before after =
    (mid : WalkState M) × (TakesStep M R index old new before mid × TakesSteps M R index old new n mid after)

-- Some steps were taken.
pub record Walks (M : Type 0) (R : M → List ℕ → Place → M → Type 0) (index : PlaceMap) (old new : DiskView) (before after : WalkState M)
    : Type 0 where
  pub count : ℕ
  pub steps : TakesSteps M R index old new count before after

-- the trees of these roots, one after the other: from where it is at the first of them to where it is after the last
abbrev pub WalksRoots : (M : Type 0) → (M → List ℕ → Place → M → Type 0) → PlaceMap → DiskView → DiskView → List NamedRoot → WalkState M
    → WalkState M → Type 0
WalksRoots M R index old new [] before after = after ≡ before
WalksRoots M R index old new (n ∷ ns) before after =
    (mid : WalkState M) × (Walks M R index old new (walk_state M (start_of (top_of n.root)) before.nodes before.notes) mid
    × (mid.ahead ≡ []) × WalksRoots M R index old new ns mid after)

-- The trees of all of these roots were, from no node on: so each node is visited once, by its level, its length and its digest.
pub record WalksOnce (M : Type 0) (R : M → List ℕ → Place → M → Type 0) (index : PlaceMap) (old new : DiskView) (roots : List NamedRoot)
    (before after : M) : Type 0 where
  pub nodes : NodeSet
  pub walks : WalksRoots M R index old new roots (walk_state M [] finite.empty before) (walk_state M [] nodes after)

-- ---- what stops it

-- the walk of a tree can't go on
pub record IsStuckOn (index : PlaceMap) (old new : DiskView) (start : List Top) (refusal : Refusal) : Type 0 where
  pub visited : List Top
  pub ahead : List Top
  pub way : VisitsTo (WasRead (Some index) old new) (HasPlace (Some index)) start visited ahead
  pub cause : IsVisitRefusal (Some index) (λ at why image. ⊥) old new ahead refusal

-- that of one of these roots
pub record IsStuckAmong (index : PlaceMap) (old new : DiskView) (roots : List NamedRoot) (refusal : Refusal) : Type 0 where
  pub before : List NamedRoot
  pub at : NamedRoot
  pub rest : List NamedRoot
  pub roots_are : roots ≡ before ++ at ∷ rest
  pub visited : List Top
  pub visits : VisitsRoots (WasRead (Some index) old new) (HasPlace (Some index)) before visited
  pub stuck : IsStuckOn index old new (start_of (top_of at.root)) refusal

-- a walk that passes nodes can't go on
pub record StopsWalk (M : Type 0) (R : M → List ℕ → Place → M → Type 0) (index : PlaceMap) (old new : DiskView) (before : WalkState M)
    (refusal : Refusal) : Type 0 where
  pub at : WalkState M
  pub walks : Walks M R index old new before at
  pub cause : IsVisitRefusal (Some index) (λ at why image. ⊥) old new at.ahead refusal

abbrev pub IsStepsRefusal : (M : Type 0) → (M → List ℕ → Place → M → Type 0) → PlaceMap → DiskView → DiskView → WalkState M → Refusal
    → Type 0
IsStepsRefusal M R index old new before refusal = (refusal ≡ Memory) ⊎ StopsWalk M R index old new before refusal

-- why the trees of these roots are not walked
abbrev pub IsTreesRefusal : PlaceMap → DiskView → DiskView → List NamedRoot → Refusal → Type 0
IsTreesRefusal index old new roots refusal = (refusal ≡ Memory) ⊎ IsStuckAmong index old new roots refusal

-- ---- trees that are held

-- held trees are to come
abbrev pub IsHeld : ByteSet → List (Option HeaderValue) → List ℕ → List Top → Type 0
IsHeld counts held image ahead = (ts : List (Tree (List ℕ))) × HeldAhead counts held image ahead ts

abbrev pub AllHeld : ByteSet → List (Option HeaderValue) → List ℕ → List NamedRoot → Type 0
AllHeld counts held image roots = AllByRecursion (λ n. IsHeld counts held image (start_of (top_of n.root))) roots

-- where the trees to come are held, and the index has their keys, so P holds
abbrev pub WhereHeld : PlaceMap → Option (List ℕ) → (ByteSet → List (Option HeaderValue) → List ℕ → Type 0)
    → (ByteSet → List (Option HeaderValue) → List ℕ → Type 0) → Type 0
WhereHeld index content Held P =
    (counts : ByteSet) (held : List (Option HeaderValue)) (image : List ℕ) → IsIndexed counts held (Some index) content image
    → Held counts held image → P counts held image
