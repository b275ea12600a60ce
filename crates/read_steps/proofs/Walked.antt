-- What is kept of a walk while it goes on, and why that of one tree stops.
use Rattle.std.proofs.Common.{◌≡◌, ◌⊎◌, ◌≤◌, ℕ, List, [], ◌∷◌, ◌++◌, Bool, true, false, Some}
use Rattle.std.specs.FinMap as finite
use Rattle.std.specs.List.{Contains}
use Rattle.container_meta.specs.declared.place.Place.{Place}
use Rattle.container_meta.specs.Places.{PlaceMap}
use Rattle.dd_disk.specs.Ending.{Done, Reads}
use Rattle.dd_disk.specs.View.{DiskView}
use Rattle.merkle_file.specs.declared.top.Top.{Top}
use Rattle.namespace.specs.Listing.{NamedRoot}
use Rattle.read_steps.specs.Passed.{HasNode, IsSized, NodeSet}
use Rattle.read_steps.specs.Trees.{AreAmong, IsStuckOn, NotesKeys, NotesTrees, WalkState, WalksRoots, walk_state}
use Rattle.read_steps.specs.Visiting.{HasPlace, VisitsTo}
use Rattle.read_steps.specs.Walking.{WasRead}
use Rattle.refusals.specs.declared.refusal.Refusal.{Refusal}
use Rattle.refusals.specs.declared.refusal.Refusal.TheVariants.{Memory}

-- why the tree to come is not walked
abbrev pub IsTreeRefusal : PlaceMap → DiskView → DiskView → List Top → Refusal → Type 0
IsTreeRefusal index old new start refusal = (refusal ≡ Memory) ⊎ IsStuckOn index old new start refusal

-- what is to come, after a step; nothing, where there was none to take
abbrev pub ahead_of : Bool → List Top → List Top
ahead_of true ahead = ahead
ahead_of false ahead = []

-- A tree was walked to its end, and its keys are among those that were noted.
pub record IsWalked (index : PlaceMap) (old new : DiskView) (noted : List Top) (t : Top) : Type 0 where
  pub visited : List Top
  pub way : VisitsTo (WasRead (Some index) old new) (HasPlace (Some index)) (t ∷ []) visited []
  pub among : AreAmong visited noted

-- each of these nodes was
abbrev pub AreWalked : PlaceMap → DiskView → DiskView → List Top → NodeSet → Type 0
AreWalked index old new noted nodes = (t : Top) → IsSized t → HasNode nodes t → IsWalked index old new noted t

-- A part of a tree was walked, and its keys noted, but for those that were noted earlier. Each of these nodes was walked whole, or was come
-- to on the way.
pub record IsWalking (M : Type 0) (R : M → List ℕ → Place → M → Type 0) (index : PlaceMap) (old new : DiskView) (start earlier : List Top)
    (initial : M) (now : WalkState M) : Type 0 where
  pub visited : List Top
  pub noted : List Top
  pub way : VisitsTo (WasRead (Some index) old new) (HasPlace (Some index)) start visited now.ahead
  pub notes : NotesKeys M R index noted initial now.notes
  pub all : AreAmong visited (earlier ++ noted)
  pub only : AreAmong noted visited
  pub came : (t : Top) → IsSized t → HasNode now.nodes t
      → IsWalked index old new (earlier ++ noted) t ⊎ ((1 ≤ t.level) × Contains visited t)

-- some of the trees were walked
pub record IsWalkingAll (M : Type 0) (R : M → List ℕ → Place → M → Type 0) (first index : PlaceMap) (old new : DiskView)
    (roots : List NamedRoot) (nodes : NodeSet) (before after : M) : Type 0 where
  pub notes : NotesTrees M R first old new roots before after
  pub walked : AreWalked first old new notes.noted nodes
  pub walks : WalksRoots M R first old new roots (walk_state M [] finite.empty before) (walk_state M [] nodes after)
  pub index_is : index ≡ first
  pub reads : Reads Done old new
