-- The levels of what the index has, where the content of a disk is a store: those of the trees that are held whole.
use Rattle.gc_steps.proofs.Prelude.{◌≡◌, ℕ, ◌-◌, List, Some, refl, sym, ◌∙◌, ap, arith, Why, Place, PlaceMap, IsMisplaced, level_of, contents_of, Store, IsPartialIndexOf, HasNewest, HoldsTree, leaf_key, node_key, some_same, finds, IsRootOf, IsWhole}
use Rattle.std.specs.FinMap as finite
use Rattle.merkle_file.specs.Node.{Contents, spelling}
use Rattle.merkle_file.specs.Tree as tree
use Rattle.merkle_file.specs.Tree.{Tree}
use Rattle.store_model.specs.Slots.{Copy}
use Rattle.gc_steps.proofs.ChildTrees.{IsWholeBelow}

module _ (index : PlaceMap) (store : Store) (image : List ℕ) (partial : IsPartialIndexOf store.held index) where
  -- a copy's place has its level
  level_there : (key bytes : List ℕ) (level : ℕ) → HasNewest store.held key level bytes image → (place : Place) → finite.get index key ≡ Some place → place.level ≡ level
  level_there key bytes level has place found =
      let copy = finds store index key place partial found in
      ap (λ (p : Place). p.level) (sym copy.2) ∙ ap (λ (c : Copy). c.place.level) (some_same copy.0 has.copy (sym copy.1 ∙ has.copy_is)) ∙ has.level_is

  -- the root of a tree that is held has the tree's
  pub tree_level : (t : Tree (List ℕ)) (key : List ℕ) (place : Place) → HoldsTree store.held image t → IsRootOf key t → finite.get index key ≡ Some place → place.level ≡ level_of t
  tree_level tree.Empty key place holds is found = absurd is
  tree_level (tree.Leaf segment) key place holds is found = level_there (leaf_key segment) segment 0 holds place (ap (finite.get index) (sym is) ∙ found)
  tree_level (tree.Node level ts) key place holds is found =
      level_there (node_key (contents_of level ts)) (spelling (contents_of level ts)) level holds.0 place (ap (finite.get index) (sym is) ∙ found)

  pub whole_level : (key : List ℕ) (whole : IsWhole index store.held image key) (place : Place) → finite.get index key ≡ Some place → place.level ≡ level_of whole.whole
  whole_level key whole place found = tree_level whole.whole key place whole.is_held.tree_is_held whole.root_is found

  -- a child of a node whose tree is held whole has the level below the node's
  pub child_placed : (n : Contents) (key : List ℕ) (at : ℕ) (why : Why) → IsWholeBelow index store.held image n.level key → IsMisplaced (Some index) (n.level - 1) key at why → ⊥
  child_placed n key at why below wrong =
      let level = whole_level key below.is_whole wrong.place (wrong.place_is index refl) in
      wrong.differs (omega (arith, level, below.below))
