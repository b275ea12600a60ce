-- Something holds of each key that is needed, where it holds of the roots and goes from nodes to their children.
use Rattle.gc_steps.proofs.Prelude.{◌≡◌, ◌≢◌, ◌≤◌, ◌<◌, inl, inr, ℕ, suc, ◌+◌, Bool, List, [], ◌∷◌, length, Option, Some, None, refl, sym, ◌∙◌, ap, subst, arith, if◌then◌else◌, All, AllByRecursion, sum_by-cons, key_of, Root, MOST_FILE, ACTORS, Part, Idle, Writing, Reading, PlaceMap, child_keys, Child, Top, IsChild, node_digest, total, of_segment, IsTree, contents_of, trees_in, Named, Files, Store, names_of, root_key, IsReachable, tree_keys, HasKey, IsFileOf, IsStoreOf, HoldsTree, file_tree, node_key, FitsFile, files_fit, right_file, root_of_tree, HoldsPart, HoldsNode, IsRootOf, HasRootKey, IsPartKey, IsRoot, IsNeeded}
use Rattle.std.specs.FinMap as finite
use Rattle.std.specs.List.{Contains}
use Rattle.actor_parts.specs.Parts.{part_of}
use Rattle.merkle_file.specs.Node.{Contents}
use Rattle.merkle_file.specs.Tree as tree
use Rattle.merkle_file.specs.Tree.{Tree}
use Rattle.store_model.specs.Slots.{Copy}
use Rattle.store_model.specs.Trees.{root_of}
use Rattle.gc_steps.proofs.Marked.{contains_none}
use Rattle.gc_steps.proofs.Needed.{closed_tree}
use Rattle.gc_steps.proofs.RootsAfter.{key_of_name}
use Rattle.gc_steps.proofs.RootTrees.{not_zero, top_key, top_of}

-- ---- the root of a tree that has keys

pub some_total : (level : ℕ) (cs : List Child) → 1 ≤ length cs → AllByRecursion (IsChild level) cs → 1 ≤ total cs
some_total level [] some each = absurd (omega (arith, some))
some_total level (c ∷ cs) some each = let sum : total (c ∷ cs) ≡ c.length + total cs = sum_by-cons (λ (x : Child). x.length) c cs in omega (arith, each.0.some, sum)

-- A tree's root has a key.
pub record HasRootOf (root : Root) (t : Tree (List ℕ)) : Type 0 where
  pub right : IsTree t
  pub has : HasRootKey root (root_key root)
  pub root_is : IsRootOf (root_key root) t

pub has_root : (t : Tree (List ℕ)) (root : Root) (key : List ℕ) → AllByRecursion IsTree (trees_in t) → top_of root ≡ tree.root_of of_segment t → Contains (tree_keys t) key
    → HasRootOf root t
has_root tree.Empty root key right top there = absurd (contains_none key there)
has_root (tree.Leaf segment) root key right top there = record {
  right = right.0;
  has = (let some : root.length ≢ 0 = λ none. omega (arith, right.0, ap (λ (x : Top). x.length) top, none) in some, refl);
  root_is = ap top_key top;
}
has_root (tree.Node level ts) root key right top there = record {
  right = right.0;
  has = (
    let some : root.length ≢ 0 = λ none.
        omega (arith, some_total level (contents_of level ts).children right.0.0.some right.0.0.each, ap (λ (x : Top). x.length) top, none) in
        some,
    refl,
  );
  root_is = ap top_key top ∙ ap (λ (b : Bool). key_of (if b then 0 else 1) (node_digest (contents_of level ts))) (not_zero level right.0.0.above);
}

part_at : (p : Part) (ps : List Part) (i : ℕ) → part_of (p ∷ ps) (suc i) ≡ part_of ps i
unfolding part_of
part_at p ps i = refl

part_first : (p : Part) (ps : List Part) → part_of (p ∷ ps) 0 ≡ p
unfolding part_of
part_first p ps = refl

module _ (index : PlaceMap) (store : Store) (files : Files) (parts : List Part) (image : List ℕ) (holds : IsStoreOf store files image) (P : List ℕ → Type 0)
    (roots : (key : List ℕ) → IsRoot (names_of store) parts key → P key)
    (closed : (n : Contents) (copy : Copy) → HoldsNode store.held image n copy → P (node_key n) → All P (child_keys n)) where
  -- each key of the tree of a root
  of_tree : (t : Tree (List ℕ)) (root : Root) (key : List ℕ) → AllByRecursion IsTree (trees_in t) → HoldsTree store.held image t → top_of root ≡ tree.root_of of_segment t
      → ((k : List ℕ) → HasRootKey root k → P k) → Contains (tree_keys t) key → P key
  of_tree t root key right held top root_has there =
      let is = has_root t root key right top there in
      closed_tree store.held image P closed t (root_key root) is.right held is.root_is (root_has (root_key root) is.has) key there

  -- of a key that is needed
  pub needed_has : (key : List ℕ) → IsNeeded store parts image key → P key
  needed_has key needed = closed_tree store.held image P closed needed.tree needed.root needed.right needed.is_held needed.root_is
      (roots needed.root needed.is_root) key needed.within

  -- of one that a file needs
  pub reachable_has : (key : List ℕ) → IsReachable files key → P key
  reachable_has key (name, (bytes, (filed, there))) = by_file (finite.get (names_of store) name) refl (finite.get files name) filed (holds.files_are name)
    where
      few : length bytes ≤ MOST_FILE
      few = subst FitsFile filed (files_fit store files image holds name)

      same_bytes : (a b : List ℕ) → Some a ≡ Some b → a ≡ b
      same_bytes a b same = cc

      of_file : (named : Named) → finite.get (names_of store) name ≡ Some named → named.root ≡ root_of bytes → HoldsTree store.held image (file_tree bytes) → P key
      of_file named found root_is held =
          of_tree (file_tree bytes) named.root key (right_file bytes few) held (ap top_of (root_is ∙ root_of_tree bytes few))
          (λ k has. roots k (inl (key_of_name (names_of store) name k named found has))) there

      by_file : (named : Option Named) → finite.get (names_of store) name ≡ named → (file : Option (List ℕ)) → file ≡ Some bytes → IsFileOf store.held image named file → P key
      by_file None found None is of = absurd cc
      by_file None found (Some other) is of = absurd of
      by_file (Some named) found None is of = absurd cc
      by_file (Some named) found (Some other) is of =
          let same : other ≡ bytes = same_bytes other bytes is in
          of_file named found (of.0 ∙ ap root_of same) (subst (λ (b : List ℕ). HoldsTree store.held image (file_tree b)) same of.1)

  -- of those of what an actor is at
  part_has : (part : Part) → ((key : List ℕ) → IsPartKey part key → P key) → HoldsPart (HasKey index) store.held image part → HoldsPart P store.held image part
  part_has Idle own held = tt
  part_has (Writing pins) own held = λ key pin has.
      let is = held key pin has in
      record {
        segment = is.segment;
        key_is = is.key_is;
        pin_is = is.pin_is;
        right = is.right;
        newest = is.newest;
        children = is.children;
        counts = own key (pin, has);
      }
  part_has (Reading reader) own held = record {
    whole = held.whole;
    right = held.right;
    top_is = held.top_is;
    is_held = record {
      tree_is_held = held.is_held.tree_is_held;
      count = λ key there. of_tree held.whole reader.root key held.right held.is_held.tree_is_held held.top_is (λ k has. own k has) there;
    };
    trees = held.trees;
    ahead = held.ahead;
    are_held = held.are_held;
  }

  parts_from : (ps : List Part) → ((i : ℕ) → i < length ps → (key : List ℕ) → IsPartKey (part_of ps i) key → P key) → AllByRecursion (HoldsPart (HasKey index) store.held image) ps
      → AllByRecursion (HoldsPart P store.held image) ps
  parts_from [] own held = tt
  parts_from (p ∷ ps) own held = (
    part_has p (λ key is. own 0 (omega arith) key (subst (λ (part : Part). IsPartKey part key) (sym (part_first p ps)) is)) held.0,
    parts_from ps (λ i within key is. own (suc i) (omega (arith, within)) key (subst (λ (part : Part). IsPartKey part key) (sym (part_at p ps i)) is)) held.1,
  )

  -- of those of what all are at
  pub parts_have : length parts ≤ ACTORS → AllByRecursion (HoldsPart (HasKey index) store.held image) parts → AllByRecursion (HoldsPart P store.held image) parts
  parts_have few held = parts_from parts (λ i within key is. roots key (inr (i, (omega (arith, within, few), is)))) held
