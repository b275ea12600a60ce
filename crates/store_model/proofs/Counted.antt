-- Trees that are held, and whose keys count.
use Rattle.store_model.proofs.Prelude.{◌≡◌, ◌<◌, ℕ, zero, suc, Bool, true, false, List, [], ◌∷◌, length, Option, Some, None, arith, refl, sym, ap, subst, ◌||◌, is_some, slice_index_or, AllByRecursion, Contains, bytes_eq, Contains-append_cases, bytes_eq-Decides, Place, PlaceMap, HeaderValue, Trees, contents_of, Store, AllKeys, keys_below, tree_keys, Copy, HasKey, IsIndexOf, newest, KeepsCopies, HoldsTree, HoldsTrees, leaf_key, node_key}
use Rattle.std.specs.FinMap as finite
use Rattle.merkle_file.specs.Tree as tree
use Rattle.merkle_file.specs.Tree.{Tree}
use Rattle.store_model.specs.Collisions.{IsIn}
use Rattle.store_model.specs.Reserve.{HoldsCounted, key_set}
use Rattle.store_model.specs.Slots.{key_set_of}
use Rattle.store_model.proofs.FreedTrees.{in_head, in_tail, needed_tree}
use Rattle.store_model.proofs.Lookups.{indexed_by}
use Rattle.store_model.proofs.TreeKeys.{at_head, either_part, none_there}

-- ---- sets of keys

-- what is in the set is one of the keys
pub contained : (key : List ℕ) (keys : List (List ℕ)) → IsIn (key_set keys) key → Contains keys key
contained key [] there = absurd cc
contained key (k ∷ ks) there = by_test (bytes_eq key k) refl (λ rest. contained key ks rest) there
  where
    by_test : (b : Bool) → bytes_eq key k ≡ b → (IsIn (key_set ks) key → Contains ks key) → IsIn (λ _. b || key_set ks key) key → Contains (k ∷ ks) key
    by_test true is rest there = subst (λ (x : List ℕ). Contains (k ∷ ks) x) (sym ((bytes_eq-Decides key k).0 is)) (in_head k ks)
    by_test false is rest there = in_tail k key ks (rest there)

-- and the other way round
pub in_set : (key : List ℕ) (keys : List (List ℕ)) → Contains keys key → IsIn (key_set keys) key
in_set key [] there = absurd (omega (arith, there.1))
in_set key (k ∷ ks) there = by_place there.0 there.1 there.2 (λ rest. in_set key ks rest)
  where
    here : bytes_eq key k ≡ true → IsIn (key_set (k ∷ ks)) key
    here is = subst (λ (b : Bool). IsIn (λ _. b || key_set ks key) key) (sym is) refl

    later : (b : Bool) → IsIn (key_set ks) key → IsIn (λ _. b || key_set ks key) key
    later true is = refl
    later false is = is

    by_place : (i : ℕ) → i < length (k ∷ ks) → slice_index_or (k ∷ ks) i key ≡ key → (Contains ks key → IsIn (key_set ks) key) → IsIn (key_set (k ∷ ks)) key
    by_place zero below is rest = here ((bytes_eq-Decides key k).1 (sym is))
    by_place (suc i) below is rest = later (bytes_eq key k) (rest (i, omega (arith, below), is))

-- that of an index has the keys that the index has
pub of_index : (index : PlaceMap) (key : List ℕ) → IsIn (key_set_of index) key → HasKey index key
of_index index key there = by_place (finite.get index key) refl there
  where
    by_place : (o : Option Place) → finite.get index key ≡ o → is_some o ≡ true → HasKey index key
    by_place None is there = absurd cc
    by_place (Some place) is there = (place, is)

pub in_index : (index : PlaceMap) (key : List ℕ) → HasKey index key → IsIn (key_set_of index) key
in_index index key has = ap is_some has.1

-- where it has all, each that is held
pub indexed_keys : (held : List (Option HeaderValue)) (index : PlaceMap) → IsIndexOf held index → (key : List ℕ) (copy : Copy) → newest 0 held key ≡ Some copy →
    IsIn (key_set_of index) key
indexed_keys held index all key copy is = in_index index key (indexed_by held index all key copy is)

-- ---- what is held

module _ (P : List ℕ → Type 0) (held : List (Option HeaderValue)) (image : List ℕ) (each : (key : List ℕ) (copy : Copy) → newest 0 held key ≡ Some copy → P key) where
  -- where P holds of each key that has a copy, it does of those of a tree that is held
  mutual
    pub held_keys : (t : Tree (List ℕ)) → HoldsTree held image t → AllKeys P t
    held_keys tree.Empty holds key there = none_there P key there
    held_keys (tree.Leaf segment) holds key there = at_head P (leaf_key segment) key [] (each (leaf_key segment) holds.copy holds.copy_is) (none_there P key) there
    held_keys (tree.Node level ts) holds key there =
        at_head P (node_key (contents_of level ts)) key (keys_below ts) (each (node_key (contents_of level ts)) holds.0.copy holds.0.copy_is) (held_below ts holds.1 key) there

    held_below : (ts : Trees (List ℕ)) → HoldsTrees held image ts → (key : List ℕ) → Contains (keys_below ts) key → P key
    held_below tree.NoTree holds key there = none_there P key there
    held_below (tree.Then t ts) holds key there =
        either_part (held_keys t holds.0 key) (held_below ts holds.1 key) (Contains-append_cases (tree_keys t) (keys_below ts) key there)

-- ---- trees go on

module _ (P Q : List ℕ → Type 0) (s t : Store) (old new : List ℕ) (keeps : KeepsCopies P s old t new) (count : (key : List ℕ) → P key → Q key) where
  pub tree_on : (u : Tree (List ℕ)) → HoldsCounted P s.held old u → HoldsCounted Q t.held new u
  tree_on u holds = record {
    tree_is_held = needed_tree P s.held t.held old new keeps u holds.count holds.tree_is_held;
    count = λ key there. count key (holds.count key there);
  }

  pub trees_on : (ts : List (Tree (List ℕ))) → AllByRecursion (HoldsCounted P s.held old) ts → AllByRecursion (HoldsCounted Q t.held new) ts
  trees_on [] held = tt
  trees_on (u ∷ us) held = (tree_on u held.0, trees_on us held.1)
