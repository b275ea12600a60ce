-- The roots of a collection are found, where the content of the disk stands for files.
use Rattle.gc_steps.proofs.Prelude.{◌≡◌, ◌≢◌, ◌⊎◌, ◌≤◌, inl, inr, ℕ, zero, suc, Bool, true, false, List, [], ◌∷◌, length, Option, Some, None, refl, sym, ◌∙◌, ap, subst, if◌then◌else◌, nat_lt, AllByRecursion, flat_map, eq-eqb, All-contains, All-from_recursion, key_of, Root, MOST_FILE, ACTORS, Part, Idle, Reading, Writing, Pin, PinMap, Place, PlaceMap, Why, IsMisplaced, Top, node_digest, of_segment, IsTree, contents_of, trees_in, Named, NamedRoot, listing_of, Refusal, Damaged, DiskRead, Memory, Missing, Files, Store, names_of, root_key, HoldsCounted, HasKey, IsPartialIndexOf, IsStoreOf, file_tree, some_same, FitsFile, file_of_root, files_fit, right_file, root_of_tree, ArePinsOf, CoreInvariant, HoldsPart, IndexesFiles, RootKey, IsRootOf, keys_as_pinned, keys_of_listed, keys_of_number, keys_of_part, keys_of_pin, keys_of_root, roots_of, IsFound, IsStartRefusal, IsUnfound, StopsAt}
use Rattle.std.proofs.Common.{◌==◌}
use Rattle.std.specs.FinMap as finite
use Rattle.std.specs.List.{Contains}
use Rattle.actor_parts.specs.Parts.{part_of}
use Rattle.merkle_file.specs.Tree as tree
use Rattle.merkle_file.specs.Tree.{Tree}
use Rattle.gc_sweep.proofs.KeyLists.{both_so}
use Rattle.gc_steps.specs.Roots.{keys_of_first}
use Rattle.gc_steps.proofs.Levels.{tree_level}
use Rattle.gc_steps.proofs.ListedKeys.{each_name}
use Rattle.gc_steps.proofs.NoneMissing.{between}
use Rattle.gc_steps.proofs.PinnedTrees.{pinned_level}
use Rattle.gc_steps.proofs.RootTrees.{not_zero, root_there, top_key, top_of}
use Rattle.gc_steps.proofs.Started.{part_holds}

-- ---- lists

each_of : {X : Type 0} (P : RootKey → Type 0) (f : X → List RootKey) (xs : List X) → AllByRecursion (λ x. AllByRecursion P (f x)) xs → AllByRecursion P (flat_map f xs)
each_of P f [] all = tt
each_of P f (x ∷ xs) all = both_so P (f x) (flat_map f xs) all.0 (each_of P f xs all.1)

every : {X : Type 0} (P : X → Type 0) (xs : List X) → ((x : X) → P x) → AllByRecursion P xs
every P [] all = tt
every P (x ∷ xs) all = (all x, every P xs all)

-- ---- roots

-- a root that is not empty has the key of its tree
root_is_of : (t : Tree (List ℕ)) (root : Root) → AllByRecursion IsTree (trees_in t) → top_of root ≡ tree.root_of of_segment t → root.length ≢ 0 → IsRootOf (root_key root) t
root_is_of tree.Empty root right top some = absurd (some (ap (λ (x : Top). x.length) top))
root_is_of (tree.Leaf segment) root right top some = ap top_key top
root_is_of (tree.Node level ts) root right top some =
    ap top_key top ∙ ap (λ (b : Bool). key_of (if b then 0 else 1) (node_digest (contents_of level ts))) (not_zero level right.0.0.above)

module _ (index : PlaceMap) (store : Store) (files : Files) (image : List ℕ) (partial : IsPartialIndexOf store.held index) where
  abbrev Found : RootKey → Type 0
  Found root = IsFound (Some index) root

  found_at : (key : List ℕ) (level : ℕ) (place : Place) → finite.get index key ≡ Some place → place.level ≡ level → Found (record { key = key; level = level })
  found_at key level place found level_is = (place, (λ m known. subst (λ (i : PlaceMap). finite.get i key ≡ Some place) (some_same index m known) found, level_is))

  root_found : (t : Tree (List ℕ)) (root : Root) → AllByRecursion IsTree (trees_in t) → HoldsCounted (HasKey index) store.held image t → top_of root ≡ tree.root_of of_segment t
      → AllByRecursion Found (keys_of_root root)
  root_found t root right holds top = by_length (root.length == 0) refl
    where
      one : root.length ≢ 0 → Found (record { key = root_key root; level = root.level })
      one some =
          let is = root_is_of t root right top some in
          let there = root_there t (root_key root) is in
          let has = subst (HasKey index) (sym there.1) (holds.count there.0 there.2) in
          found_at (root_key root) root.level has.0 has.1
          (tree_level index store image partial t (root_key root) has.0 holds.tree_is_held is has.1 ∙ sym (ap (λ (x : Top). x.level) top))

      by_length : (b : Bool) → root.length == 0 ≡ b → AllByRecursion Found (if b then [] else record { key = root_key root; level = root.level } ∷ [])
      by_length true is = tt
      by_length false is = (one (λ none. absurd (let wrong : true ≡ false = sym (eq-eqb root.length 0 none) ∙ is in cc)), tt)

  -- those of names
  names_found : IsStoreOf store files image → IndexesFiles index files → AllByRecursion Found (flat_map keys_of_listed (listing_of (names_of store)))
  names_found holds indexed = each_of Found keys_of_listed (listing_of (names_of store))
      (each_name (λ (n : NamedRoot). AllByRecursion Found (keys_of_listed n)) (names_of store) (λ name named found. one name named found))
    where
      one : (name : List ℕ) (named : Named) → finite.get (names_of store) name ≡ Some named → AllByRecursion Found (keys_of_root named.root)
      one name named found =
          let file = file_of_root name named.root store files image holds (named.sequence, found) in
          let few : length file.bytes ≤ MOST_FILE = subst FitsFile file.filed (files_fit store files image holds name) in
          root_found (file_tree file.bytes) named.root (right_file file.bytes few)
          (record { tree_is_held = file.held; count = λ k there. indexed k (name, (file.bytes, (file.filed, there))) }) (ap top_of (file.root_is ∙ root_of_tree file.bytes few))

  -- and what actors hold
  module _ (holds : IsStoreOf store files image) where
    pin_found : (pins : PinMap) (key : List ℕ) → ArePinsOf (HasKey index) store.held image pins → AllByRecursion Found (keys_of_pin pins key)
    pin_found pins key all = by_pin (finite.get pins key) refl
      where
        by_pin : (found : Option Pin) → finite.get pins key ≡ found → AllByRecursion Found (keys_as_pinned key found)
        by_pin None none = tt
        by_pin (Some pin) found =
            let has = (all key pin found).counts in (found_at key pin.level has.0 has.1 (pinned_level index store files image holds pins all partial key pin found has.0 has.1), tt)

    part_found : (part : Part) → HoldsPart (HasKey index) store.held image part → AllByRecursion Found (keys_of_part part)
    part_found Idle held = tt
    part_found (Writing pins) held = each_of Found (keys_of_pin pins) (finite.keys pins)
        (every (λ (key : List ℕ). AllByRecursion Found (keys_of_pin pins key)) (finite.keys pins) (λ key. pin_found pins key held))
    part_found (Reading reader) held = root_found held.whole reader.root held.right held.is_held held.top_is

    number_found : (parts : List Part) (actor : ℕ) → AllByRecursion (HoldsPart (HasKey index) store.held image) parts → AllByRecursion Found (keys_of_number parts actor)
    number_found parts actor all = by_number (nat_lt actor ACTORS)
      where
        by_number : (b : Bool) → AllByRecursion Found (if b then keys_of_part (part_of parts actor) else [])
        by_number true = part_found (part_of parts actor) (part_holds (HoldsPart (HasKey index) store.held image) parts actor tt all)
        by_number false = tt

    first_found : (parts : List Part) (count : ℕ) → AllByRecursion (HoldsPart (HasKey index) store.held image) parts → AllByRecursion Found (keys_of_first parts count)
    unfolding keys_of_first
    first_found parts zero all = tt
    first_found parts (suc count) all = both_so Found (keys_of_first parts count) (keys_of_number parts count) (first_found parts count all) (number_found parts count all)

-- Each root is found.
pub roots_found : (index : PlaceMap) (store : Store) (files : Files) (parts : List Part) (image : List ℕ) → CoreInvariant index store files parts image
    → IsStoreOf store files image
    → AllByRecursion (IsFound (Some index)) (roots_of (names_of store) parts)
roots_found index store files parts image core holds =
    both_so (IsFound (Some index)) (flat_map keys_of_listed (listing_of (names_of store))) (keys_of_first parts ACTORS)
    (names_found index store files image core.index_is_newest holds core.files_are_indexed)
    (first_found index store files image core.index_is_newest holds parts ACTORS core.pins_are_closed)

-- ---- so none is a reason to refuse

module _ (alone : Option PlaceMap) (index : PlaceMap) (root : RootKey) (found : IsFound (Some index) root) where
  not_misplaced : (at : ℕ) (why : Why) → IsMisplaced (Some index) root.level root.key at why → ⊥
  not_misplaced at why wrong =
      let same : found.0 ≡ wrong.place = some_same found.0 wrong.place (sym (found.1.0 index refl) ∙ wrong.place_is index refl) in
      wrong.differs (ap (λ (p : Place). p.level) (sym same) ∙ found.1.1)

  cause_unread : (refusal : Refusal) → IsUnfound alone (Some index) root refusal → (refusal ≡ DiskRead) × (alone ≡ None)
  cause_unread DiskRead unread = (refl, unread)
  cause_unread (Missing key) (same, missing) = absurd (let wrong : None ≡ Some found.0 = sym (missing index refl) ∙ ap (finite.get index) same ∙ found.1.0 index refl in cc)
  cause_unread (Damaged at why) (inl unknown) = absurd (let wrong : Some index ≡ None = unknown.1 in cc)
  cause_unread (Damaged at why) (inr wrong) = absurd (not_misplaced at why wrong)
  cause_unread refusal is = absurd is

stopped_unread : (alone : Option PlaceMap) (index : PlaceMap) (roots : List RootKey) → AllByRecursion (IsFound (Some index)) roots → (refusal : Refusal)
    → StopsAt alone (Some index) roots refusal
    → (refusal ≡ DiskRead) × (alone ≡ None)
stopped_unread alone index roots all refusal stops =
    cause_unread alone index stops.at
    (All-contains (IsFound (Some index)) roots stops.at (All-from_recursion (IsFound (Some index)) roots all)
    (subst (λ (rs : List RootKey). Contains rs stops.at) (sym stops.roots_are) (between stops.before stops.at stops.after))) refusal stops.cause

-- Where each root is found, a collection that does not begin ran out of memory, or a read failed, and the map is not known by itself then.
pub begins_unless : (alone : Option PlaceMap) (index : PlaceMap) (roots : List RootKey) → AllByRecursion (IsFound (Some index)) roots → (refusal : Refusal)
    → IsStartRefusal alone (Some index) roots refusal → (refusal ≡ Memory) ⊎ ((refusal ≡ DiskRead) × (alone ≡ None))
begins_unless alone index roots all Memory refused = inl refl
begins_unless alone index roots all refusal refused = inr (stopped_unread alone index roots all refusal refused)

-- So it ran out of memory where the map is known by itself.
pub begins_by_memory : (index : PlaceMap) (roots : List RootKey) → AllByRecursion (IsFound (Some index)) roots → (refusal : Refusal)
    → IsStartRefusal (Some index) (Some index) roots refusal → refusal ≡ Memory
begins_by_memory index roots all refusal refused = elim (begins_unless (Some index) index roots all refusal refused) [
  | inl memory ↦ memory
  | inr unread ↦ absurd (let wrong : Some index ≡ None = unread.1 in cc)
]
