-- What holds at every moment of a collection, and which keys a sweep may not take (docs/MODEL.md, 'Collection').
use Rattle.std.specs.Prelude.{ℕ, List}
use Rattle.std.specs.List.{Contains}
use Rattle.actor_parts.specs.declared.part.Part.{Part}
use Rattle.container_meta.specs.Places.{PlaceMap}
use Rattle.merkle_file.specs.Tree.{Tree}
use Rattle.merkle_file.specs.Walk.{IsTree}
use Rattle.store_model.specs.Image.{Store, names_of}
use Rattle.store_model.specs.Reserve.{tree_keys}
use Rattle.store_model.specs.Trees.{HoldsTree}
use Rattle.gc_steps.specs.declared.collection.Collection.{Collection}
use Rattle.gc_steps.specs.declared.collection.Stage.{Stage}
use Rattle.gc_steps.specs.declared.collection.Stage.TheVariants.{Mark}
use Rattle.gc_steps.specs.LiveTrees.{IsRootOf}
use Rattle.gc_steps.specs.MarksAreClosed.{MarksAreClosed}
use Rattle.gc_steps.specs.Roots.{IsRoot}
use Rattle.gc_steps.specs.SweepIsSafe.{SweepIsSafe}

-- while it marks, the marks are closed; from then on the sweep is safe
abbrev pub IsSafeAt : Stage → PlaceMap → Store → List Part → List ℕ → Collection → Type 0
IsSafeAt (Mark level slot) index store parts image c = MarksAreClosed index store parts image c
IsSafeAt stage index store parts image c = SweepIsSafe index store parts image c

abbrev pub IsSafe : PlaceMap → Store → List Part → List ℕ → Collection → Type 0
IsSafe index store parts image c = IsSafeAt c.stage index store parts image c

-- The key is needed: it is one of the tree of a root, which is held.
pub record IsNeeded (store : Store) (parts : List Part) (image key : List ℕ) : Type 0 where
  pub root : List ℕ
  pub is_root : IsRoot (names_of store) parts root
  pub tree : Tree (List ℕ)
  pub right : IsTree tree
  pub is_held : HoldsTree store.held image tree
  pub root_is : IsRootOf root tree
  pub within : Contains (tree_keys tree) key
