-- What a walk comes by that visits each node and each segment: the keys that files need, and no other.
use Rattle.std.proofs.Common.{◌≡◌, ◌⊎◌, inl, inr, ℕ, ◌+◌, ◌≤◌, List, [], ◌∷◌, ◌++◌, length, map, Option, Some, None, refl, sym, ◌∙◌, ap, subst, append_assoc, arith}
use Rattle.std.specs.Prelude.{Bool, true, false, cond, ◌==◌, if◌then◌else◌}
use Rattle.std.specs.FinMap as finite
use Rattle.std.specs.Ordering.{nat_cmp, eq_by_cmp}
use Rattle.std.specs.Cmp.Lexicographic.{slice_cmp}
use Rattle.std.specs.List.{All, AllByRecursion, Contains, flat_map}
use Rattle.std.proofs.lemmas.Bool.{eqb-true}
use Rattle.std.proofs.lemmas.List.{append-nil, map-append}
use Rattle.std.proofs.lemmas.List.Concat.{flat_map-cons}
use Rattle.std.proofs.lemmas.List.Elements.{All-head, All-tail, Contains-append_cases, Contains-append_left, Contains-append_right}
use Rattle.disk_format.specs.declared.numbers.TheConstants.{MOST_FILE}
use Rattle.disk_format.specs.Cells.{Root, IsRoot}
use Rattle.dd_disk.specs.View.{DiskView, IsLater, OnlyReads}
use Rattle.dd_disk.proofs.Shows.{until}
use Rattle.container_meta.specs.Places.{PlaceMap}
use Rattle.container_meta.specs.Spelling.{HeaderValue}
use Rattle.merkle_file.specs.declared.top.Top.{Top}
use Rattle.merkle_file.specs.Tree as tree
use Rattle.merkle_file.specs.Tree.{Tree, of_segment}
use Rattle.merkle_file.specs.Walk.{Ahead, IsTree, start_of, trees_in}
use Rattle.namespace.specs.declared.record.Named.{Named}
use Rattle.namespace.specs.Listing.{NamedRoot, listing_of, named_root}
use Rattle.namespace.proofs.Again.{entries_found}
use Rattle.store_model.specs.Files.{Files}
use Rattle.store_model.specs.Image.{Store, names_of}
use Rattle.store_model.specs.Reserve.{IsReachable, tree_keys}
use Rattle.store_model.specs.Collisions.{ByteSet, IsIn}
use Rattle.store_model.specs.Slots.{HasKey, IsIndexOf, IsPartialIndexOf, key_set_of, newest}
use Rattle.store_model.proofs.Counted.{held_keys, in_index, indexed_keys, of_index}
use Rattle.store_model.proofs.Lookups.{partial_of}
use Rattle.store_model.specs.Standing.{IsFileOf, IsStoreOf}
use Rattle.store_model.specs.Trees.{HoldsTree, file_tree}
use Rattle.store_model.proofs.Copies.{some_same}
use Rattle.store_model.proofs.Roots.{root_of_name}
use Rattle.store_model.proofs.SameFiles.{right_fits}
use Rattle.store_model.proofs.Sound.{sound_of_right}
use Rattle.store_model.proofs.Unfolding.{right_file, root_of_tree}
use Rattle.read_steps.specs.Opening.{top_of}
use Rattle.read_steps.specs.Trees.{AllHeld}
use Rattle.read_steps.specs.Visiting.{HasPlace, IsVisited, Visits, VisitsRoots, VisitsTo, VisitsTop}
use Rattle.read_steps.specs.Walking.{HeldAhead, IsIndexed, IsNodeRead, WasRead, top_key}
use Rattle.read_steps.proofs.Openings.{tree_held}
use Rattle.read_steps.proofs.Visits.{visit_held}
use Rattle.read_steps.proofs.Walks.{read_since}

-- ---- what was read stays so

pub read_wider : (known : Option PlaceMap) (v w x : DiskView) → v.clock ≤ w.clock → IsLater w x → (key bytes : List ℕ) → WasRead known v w key bytes → WasRead known v x key bytes
read_wider known v w x before later key bytes was = record {
  place = was.place;
  copy = record {
    place_is = was.copy.place_is;
    right = was.copy.right;
    long = was.copy.long;
    there = until v w x was.copy.there before later;
  };
}

-- from a moment on before which calls only read
pub read_earlier : (known : Option PlaceMap) (u v w : DiskView) → OnlyReads u v → (key bytes : List ℕ) → WasRead known v w key bytes → WasRead known u w key bytes
read_earlier known u v w reads key bytes was = read_since known u v w known refl reads key bytes was

-- ---- visits, seen more widely

module _ (P P' : List ℕ → List ℕ → Type 0) (Q Q' : List ℕ → Type 0) (each : (key bytes : List ℕ) → P key bytes → P' key bytes) (placed : (key : List ℕ) → Q key → Q' key) where
  node_wider : (before : List Top) (bytes : List ℕ) → IsNodeRead P before bytes → IsNodeRead P' before bytes
  node_wider [] bytes read = absurd read
  node_wider (t ∷ ts) bytes read = (read.0, each _ bytes read.1, read.2, read.3)

  top_wider : (t : Top) (others after : List Top) → VisitsTop P Q t others after → VisitsTop P' Q' t others after
  top_wider t others after (inl leaf) = inl (leaf.0, placed (top_key t) leaf.1, leaf.2)
  top_wider t others after (inr node) = inr (node.0, (node_wider (t ∷ others) node.0 node.1.0, node.1.1))

  to_wider : (before visited after : List Top) → VisitsTo P Q before visited after → VisitsTo P' Q' before visited after
  to_wider before [] after way = way
  to_wider before (t ∷ ts) after way =
      let first : Visits P Q before t way.0 = way.1.0 in
      (way.0, ((first.0, (first.1.0, top_wider t first.0 way.0 first.1.1)), to_wider way.0 ts after way.1.1))

  all_wider : (roots : List NamedRoot) (visited : List Top) → VisitsRoots P Q roots visited → VisitsRoots P' Q' roots visited
  all_wider [] visited way = way
  all_wider (n ∷ ns) visited way =
      (way.0, (way.1.0, (way.1.1.0, to_wider (start_of (top_of n.root)) way.0 [] way.1.1.1, all_wider ns way.1.0 way.1.1.2)))

pub visits_wider : (P P' : List ℕ → List ℕ → Type 0) (Q Q' : List ℕ → Type 0) (before visited after : List Top) → VisitsTo P Q before visited after →
    ((key bytes : List ℕ) → P key bytes → P' key bytes)
    → ((key : List ℕ) → Q key → Q' key) → VisitsTo P' Q' before visited after
visits_wider P P' Q Q' before visited after way each placed = to_wider P P' Q Q' each placed before visited after way

pub roots_wider : (P P' : List ℕ → List ℕ → Type 0) (Q Q' : List ℕ → Type 0) (roots : List NamedRoot) (visited : List Top) → VisitsRoots P Q roots visited →
    ((key bytes : List ℕ) → P key bytes → P' key bytes)
    → ((key : List ℕ) → Q key → Q' key) → VisitsRoots P' Q' roots visited
roots_wider P P' Q Q' roots visited way each placed = all_wider P P' Q Q' each placed roots visited way

-- ---- visits that go on

pub visits_more : (P : List ℕ → List ℕ → Type 0) (Q : List ℕ → Type 0) (before visited mid more after : List Top) → VisitsTo P Q before visited mid → VisitsTo P Q mid more after
    → VisitsTo P Q before (visited ++ more) after
visits_more P Q before [] mid more after first second = subst (λ (tops : List Top). VisitsTo P Q tops more after) first second
visits_more P Q before (t ∷ ts) mid more after first second = (first.0, (first.1.0, visits_more P Q first.0 ts mid more after first.1.1 second))

-- one more tree
pub roots_more : (P : List ℕ → List ℕ → Type 0) (Q : List ℕ → Type 0) (roots : List NamedRoot) (visited : List Top) (n : NamedRoot) (more : List Top) →
    VisitsRoots P Q roots visited
    → VisitsTo P Q (start_of (top_of n.root)) more [] → VisitsRoots P Q (roots ++ n ∷ []) (visited ++ more)
roots_more P Q [] visited n more first second = (more, ([], (ap (λ (tops : List Top). tops ++ more) first ∙ sym (append-nil more), second, refl)))
roots_more P Q (m ∷ ms) visited n more first second = (
  first.0,
  (
    first.1.0 ++ more,
    (
      ap (λ (tops : List Top). tops ++ more) first.1.1.0 ∙ append_assoc first.0 first.1.0 more,
      first.1.1.1,
      roots_more P Q ms first.1.0 n more first.1.1.2 second,
    ),
  ),
)

-- ---- the keys of held trees

-- a walk to the end visits each key of the trees to come, in their order
pub visited_keys : (counts : ByteSet) (held : List (Option HeaderValue)) (known : Option PlaceMap) (old new : DiskView) (image : List ℕ) (ahead visited : List Top)
    (ts : List (Tree (List ℕ))) → IsIndexed counts held known old.content image
    → HeldAhead counts held image ahead ts → VisitsTo (WasRead known old new) (HasPlace known) ahead visited [] → map top_key visited ≡ flat_map tree_keys ts
visited_keys counts held known old new image ahead [] [] indexed trees way = refl
visited_keys counts held known old new image ahead [] (u ∷ us) indexed trees way =
    absurd (let wrong : [] ≡ tree.root_of of_segment u ∷ map (tree.root_of of_segment) us = way ∙ trees.trees.tops in cc)
visited_keys counts held known old new image ahead (t ∷ more) ts indexed trees way =
    let later = visit_held counts held known old new image indexed ahead way.0 t ts way.1.0 trees in
    ap (λ (keys : List (List ℕ)). top_key t ∷ keys) (visited_keys counts held known old new image way.0 more later.0 indexed later.1 way.1.1) ∙ sym later.2

keys_of_tree : (t : Tree (List ℕ)) → flat_map tree_keys (trees_in t) ≡ tree_keys t
keys_of_tree tree.Empty = refl
keys_of_tree (tree.Leaf segment) = flat_map-cons tree_keys (tree.Leaf segment) [] ∙ append-nil (tree_keys (tree.Leaf segment))
keys_of_tree (tree.Node level ts) = flat_map-cons tree_keys (tree.Node level ts) [] ∙ append-nil (tree_keys (tree.Node level ts))

-- ---- where a walk of a tree begins

start_by : (t : Top) (no_bytes flat : Bool) → (t.length == 0) ≡ no_bytes → (t.level == 0) ≡ flat → 1 ≤ t.length + t.level →
    (if no_bytes then (if flat then [] else t ∷ []) else t ∷ []) ≡ t ∷ []
start_by t true true none low some = absurd (omega (arith, eqb-true t.length 0 none, eqb-true t.level 0 low, some))
start_by t true false none low some = refl
start_by t false flat none low some = refl

start_some : (t : Top) → 1 ≤ t.length + t.level → start_of t ≡ t ∷ []
start_some t some = start_by t (t.length == 0) (t.level == 0) refl refl some

start_of_tree : (t : Tree (List ℕ)) → AllByRecursion IsTree (trees_in t) → start_of (tree.root_of of_segment t) ≡ map (tree.root_of of_segment) (trees_in t)
start_of_tree tree.Empty right = refl
start_of_tree (tree.Leaf segment) right = start_some (tree.root_of of_segment (tree.Leaf segment)) (omega (arith, right.0))
start_of_tree (tree.Node level ts) right = start_some (tree.root_of of_segment (tree.Node level ts)) (omega (arith, right.0.0.above))

-- ---- the file of a name

-- the tree of a file of this root is held, and is to come where a walk begins
record IsFileToCome (held : List (Option HeaderValue)) (image : List ℕ) (file : Option (List ℕ)) (root : Root) : Type 0 where
  bytes : List ℕ
  filed : file ≡ Some bytes
  tree_is_held : HoldsTree held image (file_tree bytes)
  ahead : Ahead (start_of (top_of root)) (trees_in (file_tree bytes))

file_by : (held : List (Option HeaderValue)) (image : List ℕ) (named : Named) (file : Option (List ℕ)) → IsRoot named.root → IsFileOf held image (Some named) file →
    IsFileToCome held image file named.root
file_by held image named None right is = absurd is
file_by held image named (Some bytes) right is =
    let few : length bytes ≤ MOST_FILE = right_fits bytes (subst IsRoot is.0 right) in
    let trees : AllByRecursion IsTree (trees_in (file_tree bytes)) = right_file bytes few in
    let top : top_of named.root ≡ tree.root_of of_segment (file_tree bytes) = ap top_of (is.0 ∙ root_of_tree bytes few) in
    record {
      bytes = bytes;
      filed = refl;
      tree_is_held = is.1;
      ahead = record { tops = ap start_of top ∙ start_of_tree (file_tree bytes) trees; each = trees };
    }

name_by : (held : List (Option HeaderValue)) (image : List ℕ) (named : Option Named) (file : Option (List ℕ)) (bytes : List ℕ) → file ≡ Some bytes →
    IsFileOf held image named file → (n : Named) × (named ≡ Some n)
name_by held image (Some n) file bytes filed is = (n, refl)
name_by held image None (Some other) bytes filed is = absurd is
name_by held image None None bytes filed is = absurd (let wrong : None ≡ Some bytes = filed in cc)

module _ (store : Store) (files : Files) (image : List ℕ) (holds : IsStoreOf store files image) where
  file_to_come : (name : List ℕ) (named : Named) → finite.get (names_of store) name ≡ Some named → IsFileToCome store.held image (finite.get files name) named.root
  file_to_come name named found =
      file_by store.held image named (finite.get files name)
      (root_of_name (length image) store name named.root (sound_of_right (length image) image store refl holds.right) (named.sequence, found))
      (subst (λ (o : Option Named). IsFileOf store.held image o (finite.get files name)) found (holds.files_are name))

  -- where a set has the keys that files need
  module _ (counts : ByteSet) (count : (key : List ℕ) → IsReachable files key → IsIn counts key) where
    needed_ahead : (name : List ℕ) (named : Named) (found : finite.get (names_of store) name ≡ Some named) →
        HeldAhead counts store.held image (start_of (top_of named.root)) (trees_in (file_tree (file_to_come name named found).bytes))
    needed_ahead name named found =
        let file = file_to_come name named found in
        record {
          trees = file.ahead;
          each = tree_held (IsIn counts) store.held image (file_tree file.bytes)
              (record { tree_is_held = file.tree_is_held; count = λ key there. count key (name, (file.bytes, (file.filed, there))) });
        }

    each_held : (es : List (List ℕ × Named)) → All (λ e. finite.get (names_of store) e.0 ≡ Some e.1) es → AllHeld counts store.held image (map named_root es)
    each_held [] all = tt
    each_held (e ∷ es) all = (
      (_, needed_ahead e.0 e.1 (All-head (λ x. finite.get (names_of store) x.0 ≡ Some x.1) e es all)),
      each_held es (All-tail (λ x. finite.get (names_of store) x.0 ≡ Some x.1) e es all),
    )

    -- so the trees of all names are held
    pub names_held : AllHeld counts store.held image (listing_of (names_of store))
    names_held = each_held (finite.entries (names_of store)) (entries_found (names_of store))

  -- ---- all names

  -- where the index has each key that files need
  module _ (index : PlaceMap) (old new : DiskView) (told : old.content ≡ Some image) (newest : IsPartialIndexOf store.held index)
      (indexed : (key : List ℕ) → IsReachable files key → HasKey index key) where
    abbrev read : List ℕ → List ℕ → Type 0
    read = WasRead (Some index) old new

    abbrev placed : List ℕ → Type 0
    placed = HasPlace (Some index)

    -- the walk of a name visits the keys of its file
    keys_of_file : (name : List ℕ) (named : Named) (visited : List Top) (found : finite.get (names_of store) name ≡ Some named) →
        VisitsTo read placed (start_of (top_of named.root)) visited []
        → map top_key visited ≡ tree_keys (file_tree (file_to_come name named found).bytes)
    keys_of_file name named visited found way =
        let file = file_to_come name named found in
        let counts : ByteSet = key_set_of index in
        visited_keys counts store.held (Some index) old new image (start_of (top_of named.root)) visited (trees_in (file_tree file.bytes))
        (record { told = told; index = index; index_known = refl; index_is_newest = newest; has = λ k. of_index index k })
        (needed_ahead counts (λ k reached. in_index index k (indexed k reached)) name named found) way
        ∙ keys_of_tree (file_tree file.bytes)

    needed_in : (name : List ℕ) (named : Named) (first rest : List Top) (key : List ℕ) → finite.get (names_of store) name ≡ Some named →
        VisitsTo read placed (start_of (top_of named.root)) first []
        → (IsVisited rest key → IsReachable files key) → Contains (map top_key first) key ⊎ Contains (map top_key rest) key → IsReachable files key
    needed_in name named first rest key found way others (inl here) =
        let file = file_to_come name named found in
        (name, (file.bytes, (file.filed, subst (λ (keys : List (List ℕ)). Contains keys key) (keys_of_file name named first found way) here)))
    needed_in name named first rest key found way others (inr later) = others later

    needed_by : (es : List (List ℕ × Named)) (visited : List Top) (key : List ℕ) → All (λ e. finite.get (names_of store) e.0 ≡ Some e.1) es →
        VisitsRoots read placed (map named_root es) visited → IsVisited visited key
        → IsReachable files key
    needed_by [] visited key all way is =
        let none : IsVisited [] key = subst (λ (tops : List Top). IsVisited tops key) way is in absurd (omega (arith, none.1))
    needed_by (e ∷ es) visited key all way is =
        needed_in e.0 e.1 way.0 way.1.0 key (All-head (λ x. finite.get (names_of store) x.0 ≡ Some x.1) e es all) way.1.1.1
        (needed_by es way.1.0 key (All-tail (λ x. finite.get (names_of store) x.0 ≡ Some x.1) e es all) way.1.1.2)
        (Contains-append_cases (map top_key way.0) (map top_key way.1.0) key
        (subst (λ (keys : List (List ℕ)). Contains keys key) (ap (map top_key) way.1.1.0 ∙ map-append top_key way.0 way.1.0) is))

    visited_in : (name bytes : List ℕ) (one named : Named) (first rest : List Top) (key : List ℕ) (same : Bool) (other : Option Named) → cond same (Some one) other ≡ Some named
        → finite.get (names_of store) name ≡ Some named → finite.get files name ≡ Some bytes → Contains (tree_keys (file_tree bytes)) key →
        VisitsTo read placed (start_of (top_of one.root)) first []
        → (other ≡ Some named → IsVisited rest key) → Contains (map top_key first ++ map top_key rest) key
    visited_in name bytes one named first rest key true other is found filed has way others =
        let file = file_to_come name named found in
        let bytes_are : bytes ≡ file.bytes = some_same bytes file.bytes (sym filed ∙ file.filed) in
        let keys : map top_key first ≡ tree_keys (file_tree file.bytes) =
        keys_of_file name named first found (subst (λ (n : Named). VisitsTo read placed (start_of (top_of n.root)) first []) (some_same one named is) way) in
        Contains-append_left (map top_key first) (map top_key rest) key
        (subst (λ (ks : List (List ℕ)). Contains ks key) (ap (λ (b : List ℕ). tree_keys (file_tree b)) bytes_are ∙ sym keys) has)
    visited_in name bytes one named first rest key false other is found filed has way others = Contains-append_right (map top_key first) (map top_key rest) key (others is)

    -- the first of some names that is found is visited
    visited_by : (es : List (List ℕ × Named)) (visited : List Top) (name bytes key : List ℕ) (named : Named) → finite.find (slice_cmp nat_cmp) name es ≡ Some named →
        finite.get (names_of store) name ≡ Some named
        → finite.get files name ≡ Some bytes → Contains (tree_keys (file_tree bytes)) key → VisitsRoots read placed (map named_root es) visited → IsVisited visited key
    visited_by [] visited name bytes key named first found filed has way = absurd (let wrong : None ≡ Some named = first in cc)
    visited_by (e ∷ es) visited name bytes key named first found filed has way =
        subst (λ (keys : List (List ℕ)). Contains keys key) (sym (ap (map top_key) way.1.1.0 ∙ map-append top_key way.0 way.1.0))
        (visited_in name bytes e.1 named way.0 way.1.0 key (eq_by_cmp (slice_cmp nat_cmp) name e.0) (finite.find (slice_cmp nat_cmp) name es) first found filed has way.1.1.1
        (λ later. visited_by es way.1.0 name bytes key named later found filed has way.1.1.2))

-- of the trees of all names just the keys are visited that can be reached of their files
module _ (store : Store) (files : Files) (image : List ℕ) (holds : IsStoreOf store files image) (index : PlaceMap) (old new : DiskView) (visited : List Top)
    (told : old.content ≡ Some image) (newest : IsPartialIndexOf store.held index) (indexed : (key : List ℕ) → IsReachable files key → HasKey index key)
    (way : VisitsRoots (WasRead (Some index) old new) (HasPlace (Some index)) (listing_of (names_of store)) visited) where
  pub reached_visited : (key : List ℕ) → IsVisited visited key → IsReachable files key
  reached_visited key is = needed_by store files image holds index old new told newest indexed (finite.entries (names_of store)) visited key (entries_found (names_of store)) way is

  pub visited_reached : (key : List ℕ) → IsReachable files key → IsVisited visited key
  visited_reached key (name, (bytes, (filed, has))) =
      let named = name_by store.held image (finite.get (names_of store) name) (finite.get files name) bytes filed (holds.files_are name) in
      visited_by store files image holds index old new told newest indexed (finite.entries (names_of store)) visited name bytes key named.0
      (sym (finite.get-entries (names_of store) name) ∙ named.1) named.1 filed has way

-- an index of all that is held has them
pub all_indexed : (store : Store) (files : Files) (image : List ℕ) (index : PlaceMap) → IsStoreOf store files image → IsIndexOf store.held index → (key : List ℕ) →
    IsReachable files key → HasKey index key
all_indexed store files image index holds newest key (name, (bytes, (filed, has))) =
    let named = name_by store.held image (finite.get (names_of store) name) (finite.get files name) bytes filed (holds.files_are name) in
    let file = file_to_come store files image holds name named.0 named.1 in
    let same : bytes ≡ file.bytes = some_same bytes file.bytes (sym filed ∙ file.filed) in
    of_index index key (held_keys (IsIn (key_set_of index)) store.held image (indexed_keys store.held index newest) (file_tree file.bytes) file.tree_is_held key
    (subst (λ (b : List ℕ). Contains (tree_keys (file_tree b)) key) same has))

-- what was visited is needed
pub needed_visited : (store : Store) (files : Files) (image : List ℕ) (index : PlaceMap) (old new : DiskView) (visited : List Top) → old.content ≡ Some image →
    IsStoreOf store files image
    → IsIndexOf store.held index → VisitsRoots (WasRead (Some index) old new) (HasPlace (Some index)) (listing_of (names_of store)) visited → (key : List ℕ) →
    IsVisited visited key → IsReachable files key
needed_visited store files image index old new visited told holds newest way key is =
    reached_visited store files image holds index old new visited told (partial_of store.held index newest) (all_indexed store files image index holds newest) way key is

-- what is needed was visited
pub visited_needed : (store : Store) (files : Files) (image : List ℕ) (index : PlaceMap) (old new : DiskView) (visited : List Top) → old.content ≡ Some image →
    IsStoreOf store files image
    → IsIndexOf store.held index → VisitsRoots (WasRead (Some index) old new) (HasPlace (Some index)) (listing_of (names_of store)) visited → (key : List ℕ) →
    IsReachable files key → IsVisited visited key
visited_needed store files image index old new visited told holds newest way key is =
    visited_reached store files image holds index old new visited told (partial_of store.held index newest) (all_indexed store files image index holds newest) way key is
