-- What is pinned is held whole: from the pinned nodes down to the data.
use Rattle.gc_steps.proofs.Prelude.{◌≡◌, ◌≤◌, ℕ, zero, suc, ◌+◌, true, List, [], ◌∷◌, length, map, Option, Some, None, refl, sym, ◌∙◌, ap, subst, arith, AllByRecursion, eqb-true, Contains-append_cases, sha256, key_of, Pin, PinMap, has_pin, IsOfKind, child_pin, children_by, Kind, Leaf, kind_byte, Place, PlaceMap, Segment, segment_key, HeaderValue, Child, IsNode, node_digest, total, contents_in, Trees, child_of, children_of, level_of, of_segment, AreBelow, contents_of, Files, Store, keys_below, tree_keys, HasKey, IsPartialIndexOf, newest, IsStoreOf, HasNewest, HoldsTrees, leaf_key, node_key, headers_of_right, newest_so, ArePinsOf, IsRootOf, IsWhole}
use Rattle.std.specs.Prelude.{◌==◌}
use Rattle.std.specs.FinMap as finite
use Rattle.std.specs.List.{Contains}
use Rattle.actor_parts.specs.PinMap.{is_pin}
use Rattle.actor_parts.specs.Segments.{IsNodeSegment, child_kind, pin_by}
use Rattle.container_meta.specs.declared.kind.Kind.TheVariants.{Tree}
use Rattle.merkle_file.specs.Node.{Contents, spelling}
use Rattle.merkle_file.specs.Tree as tree
use Rattle.store_model.specs.Slots.{Copy}
use Rattle.store_model.proofs.Copies.{copy_within}
use Rattle.store_model.proofs.HeldSlots.{HasLevel, levels_so, same_digest}
use Rattle.store_model.proofs.Roots.{length_of_copy}
use Rattle.store_model.proofs.TreeKeys.{at_head, either_part, none_there}
use Rattle.store_state.specs.Invariant.{HoldsPin}
use Rattle.gc_steps.proofs.Levels.{whole_level}
use Rattle.base_model.proofs.Checks.{both}

-- ---- pins and children

same_pin : (a b c d : ℕ) → a ≡ c → b ≡ d → (let p : Pin = record { level = a; length = b } in p) ≡ record { level = c; length = d }
same_pin a b c d first second = cc

same_child : (a b : List ℕ) (c d : ℕ) → a ≡ b → c ≡ d → (let x : Child = record { digest = a; length = c } in x) ≡ record { digest = b; length = d }
same_child a b c d first second = cc

same_contents : (a b : ℕ) (cs ds : List Child) → a ≡ b → cs ≡ ds → (let n : Contents = record { level = a; children = cs } in n) ≡ record { level = b; children = ds }
same_contents a b cs ds first second = cc

same_children : (c d : Child) (cs ds : List Child) → c ≡ d → cs ≡ ds → c ∷ cs ≡ d ∷ ds
same_children c d cs ds first second = cc

pub pin_found : (pin : Pin) (found : Option Pin) → is_pin pin found ≡ true → found ≡ Some pin
pin_found pin None is = absurd cc
pin_found pin (Some other) is =
    let parts = both (other.level == pin.level) (other.length == pin.length) is in
    ap Some (same_pin other.level other.length pin.level pin.length (eqb-true other.level pin.level parts.0) (eqb-true other.length pin.length parts.1))

-- a key says the digest of the tree whose root it is of
digest_of_root : (t : tree.Tree (List ℕ)) (kind : Kind) (digest : List ℕ) → IsRootOf (key_of (kind_byte kind) digest) t → (child_of of_segment t).digest ≡ digest
digest_of_root tree.Empty kind digest is = absurd is
digest_of_root (tree.Leaf segment) kind digest is = sym (same_digest kind Leaf digest (sha256 segment) is)
digest_of_root (tree.Node level ts) kind digest is = sym (same_digest kind Tree digest (node_digest (contents_of level ts)) is)

-- ---- the tree of a pin

-- The tree of a key is held whole, and has the level and the length of a pin.
record HasPinTree (index : PlaceMap) (held : List (Option HeaderValue)) (image key : List ℕ) (pin : Pin) : Type 0 where
  is_whole : IsWhole index held image key
  level_is : level_of is_whole.whole ≡ pin.level
  length_is : (child_of of_segment is_whole.whole).length ≡ pin.length

-- The trees of the children of a node of a level are held whole.
record HasTrees (index : PlaceMap) (held : List (Option HeaderValue)) (image : List ℕ) (level : ℕ) (children : List Child) : Type 0 where
  trees : Trees (List ℕ)
  children_are : children_of of_segment trees ≡ children
  right : AreBelow level trees
  are_held : HoldsTrees held image trees
  count : (key : List ℕ) → Contains (keys_below trees) key → HasKey index key

module _ (index : PlaceMap) (store : Store) (files : Files) (image : List ℕ) (holds : IsStoreOf store files image) (pins : PinMap)
    (all : ArePinsOf (HasKey index) store.held image pins) where
  abbrev IsPinned : List ℕ → Pin → Type 0
  IsPinned key pin = HoldsPin (HasKey index) store.held image pins key pin

  abbrev HasTree : List ℕ → Pin → Type 0
  HasTree key pin = HasPinTree index store.held image key pin

  -- data has level 0
  data_level : (bytes : List ℕ) (copy : Copy) → newest 0 store.held (leaf_key bytes) ≡ Some copy → copy.place.level ≡ 0
  data_level bytes copy is =
      let so = newest_so HasLevel store.held Leaf (sha256 bytes) image copy (levels_so 0 store.held image (headers_of_right image store holds.right)) is in
      so.level_is ∙ eqb-true so.entry.level 0 so.so

  -- of data it is a leaf
  data_tree : (s : Segment) (key : List ℕ) (pin : Pin) → segment_key Leaf s ≡ key → pin_by Leaf s ≡ pin → HasNewest store.held key s.level s.bytes image → HasKey index key
      → HasTree key pin
  data_tree s key pin key_is pin_is has counts =
      let here : newest 0 store.held (leaf_key s.bytes) ≡ Some has.copy = ap (newest 0 store.held) key_is ∙ has.copy_is in
      let within = copy_within store key has.copy (headers_of_right image store holds.right) has.copy_is in
      let some : 1 ≤ length s.bytes = omega (arith, length_of_copy store image key has.copy holds.right has.copy_is, within.2, ap length has.bytes_are) in
      record {
        is_whole = record {
          whole = tree.Leaf s.bytes;
          root_is = sym key_is;
          right = some;
          is_held = record {
            tree_is_held = record { copy = has.copy; copy_is = here; level_is = data_level s.bytes has.copy here; bytes_are = has.bytes_are };
            count = λ k there. at_head (HasKey index) (leaf_key s.bytes) k [] (subst (HasKey index) (sym key_is) counts) (none_there (HasKey index) k) there;
          };
        };
        level_is = ap (λ (p : Pin). p.level) pin_is;
        length_is = ap (λ (p : Pin). p.length) pin_is;
      }

  -- of a node it is that node over the trees of its children
  node_tree : (s : Segment) (key : List ℕ) (pin : Pin) → segment_key Tree s ≡ key → pin_by Tree s ≡ pin → IsNodeSegment s → HasNewest store.held key s.level s.bytes image
      → HasKey index key
      → HasTrees index store.held image s.level (contents_in s.bytes).children → HasTree key pin
  node_tree s key pin key_is pin_is right has counts below =
      let n : Contents = contents_of s.level below.trees in
      let same : n ≡ contents_in s.bytes = same_contents s.level (contents_in s.bytes).level (children_of of_segment below.trees)
      (contents_in s.bytes).children right.level below.children_are in
      let spelled : s.bytes ≡ spelling n = right.bytes.spelled ∙ ap spelling (sym same) in
      let top : key ≡ node_key n = sym key_is ∙ ap (λ (bytes : List ℕ). key_of 1 (sha256 bytes)) spelled in
      record {
        is_whole = record {
          whole = tree.Node s.level below.trees;
          root_is = top;
          right = (subst IsNode (sym same) right.bytes.node, below.right);
          is_held = record {
            tree_is_held = (
              record { copy = has.copy; copy_is = ap (newest 0 store.held) (sym top) ∙ has.copy_is; level_is = has.level_is; bytes_are = has.bytes_are ∙ spelled },
              below.are_held,
            );
            count = λ k there. at_head (HasKey index) (node_key n) k (keys_below below.trees) (subst (HasKey index) top counts) (below.count k) there;
          };
        };
        level_is = ap (λ (p : Pin). p.level) pin_is;
        length_is = ap total below.children_are ∙ ap (λ (p : Pin). p.length) pin_is;
      }

  -- one tree more
  one_more : (level : ℕ) (c : Child) (cs : List Child) → 1 ≤ level → HasTree (child_pin level c).key (child_pin level c).pin → HasTrees index store.held image level cs
      → HasTrees index store.held image level (c ∷ cs)
  one_more level c cs above one rest =
      let t : tree.Tree (List ℕ) = one.is_whole.whole in
      let digest : (child_of of_segment t).digest ≡ c.digest = digest_of_root t (child_kind level) c.digest one.is_whole.root_is in
      record {
        trees = tree.Then t rest.trees;
        children_are =
            same_children (child_of of_segment t) c (children_of of_segment rest.trees) cs
            (same_child (child_of of_segment t).digest c.digest (child_of of_segment t).length c.length digest one.length_is) rest.children_are;
        right = (omega (arith, one.level_is, above), one.is_whole.right, rest.right);
        are_held = (one.is_whole.is_held.tree_is_held, rest.are_held);
        count = λ k there. either_part (one.is_whole.is_held.count k) (rest.count k) (Contains-append_cases (tree_keys t) (keys_below rest.trees) k there);
      }

  children_trees : (level : ℕ) → 1 ≤ level → ((key : List ℕ) (pin : Pin) → pin.level + 1 ≡ level → IsPinned key pin → HasTree key pin)
      → (cs : List Child) → AllByRecursion (λ c. has_pin pins c.key c.pin ≡ true) (map (child_pin level) cs) → HasTrees index store.held image level cs
  children_trees level above lower [] pinned = record { trees = tree.NoTree; children_are = refl; right = tt; are_held = tt; count = λ k there. none_there (HasKey index) k there }
  children_trees level above lower (c ∷ cs) pinned =
      let found = pin_found (child_pin level c).pin (finite.get pins (child_pin level c).key) pinned.0 in
      one_more level c cs above
      (lower (child_pin level c).key (child_pin level c).pin (omega (arith, above)) (all (child_pin level c).key (child_pin level c).pin found))
      (children_trees level above lower cs pinned.1)

  of_kind : (n : ℕ) → ((key : List ℕ) (pin : Pin) → pin.level + 1 ≡ n → IsPinned key pin → HasTree key pin) → (kind : Kind) (s : Segment) (key : List ℕ) (pin : Pin) → pin.level ≡ n
      → segment_key kind s ≡ key → pin_by kind s ≡ pin → IsOfKind kind s → HasNewest store.held key s.level s.bytes image
      → AllByRecursion (λ c. has_pin pins c.key c.pin ≡ true) (children_by kind s) → HasKey index key → HasTree key pin
  of_kind n lower Leaf s key pin level_is key_is pin_is right has pinned counts = data_tree s key pin key_is pin_is has counts
  of_kind n lower Tree s key pin level_is key_is pin_is right has pinned counts =
      let level : s.level ≡ n = ap (λ (p : Pin). p.level) pin_is ∙ level_is in
      node_tree s key pin key_is pin_is right has counts
      (children_trees s.level (omega (arith, right.level, right.bytes.node.above)) (λ k p below is. lower k p (below ∙ level) is) (contents_in s.bytes).children pinned)

  -- by the levels, from the data on
  pinned_tree : (n : ℕ) (key : List ℕ) (pin : Pin) → pin.level ≡ n → IsPinned key pin → HasTree key pin
  pinned_tree zero key pin level is =
      of_kind zero (λ k p lower below. absurd (omega (arith, lower))) is.segment.kind is.segment.segment key pin level is.key_is is.pin_is is.right is.newest is.children is.counts
  pinned_tree (suc n) key pin level is =
      of_kind (suc n)
      (λ k p lower below. pinned_tree n k p
      (omega (arith, lower)) below) is.segment.kind is.segment.segment key pin level is.key_is is.pin_is is.right is.newest is.children is.counts

  -- What an actor has pinned is held whole.
  pub pinned_whole : (key : List ℕ) (pin : Pin) → finite.get pins key ≡ Some pin → IsWhole index store.held image key
  pinned_whole key pin found = (pinned_tree pin.level key pin refl (all key pin found)).is_whole

  -- The index has it at the level that is said of it.
  pub pinned_level : IsPartialIndexOf store.held index → (key : List ℕ) (pin : Pin) → finite.get pins key ≡ Some pin → (place : Place) → finite.get index key ≡ Some place
      → place.level ≡ pin.level
  pinned_level partial key pin found place there =
      let has = pinned_tree pin.level key pin refl (all key pin found) in
      whole_level index store image partial key has.is_whole place there ∙ has.level_is
