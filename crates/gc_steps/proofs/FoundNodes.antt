-- The nodes that a scan of a container found, on a disk whose content is known: just the live nodes of the level whose newest copies lie in it.
use Rattle.gc_steps.proofs.Prelude.{◌≡◌, ◌⊎◌, inl, inr, ℕ, ◌-◌, ◌≤◌, true, List, [], ◌∷◌, Option, Some, None, refl, sym, ◌∙◌, ap, subst, arith, slice_get, All, AllByRecursion, flat_map, eqb-true, All-weaker, Contains-append_cases, recursion_from_All, slice_get-get_or, bytes_eq-Decides, key_of, Entry, Kind, Leaf, Place, is_level, kind_byte, PlaceMap, HeaderValue, DiskView, shown_content, LiveKeys, HasLiveChildren, IsLiveOf, HaveNodes, IsToScan, Scan, child_keys, node_digest, Files, Store, entry_key, IsPartialIndexOf, newest, place_of, IsStoreOf, bytes_at, node_key, lies, some_same, found_so, newest_so, nodes_so, IsNodeEntry, finds, one_spelling, IsLive, HoldsNode, NewAreLive, scan_for, ShowsAt}
use Rattle.std.specs.FinMap as finite
use Rattle.std.specs.List.{Contains}
use Rattle.container_meta.specs.declared.kind.Kind.TheVariants.{Tree}
use Rattle.gc_enumerate.specs.Live.{IsLiveAt}
use Rattle.gc_enumerate.specs.Scanning.{IsNodeOf}
use Rattle.merkle_file.specs.Node.{Contents, spelling}
use Rattle.store_model.specs.Slots.{Copy}
use Rattle.store_model.proofs.Copies.{LiesIn}
use Rattle.gc_steps.proofs.Marked.{contains_none}

-- ---- the header of a slot

-- where a newest copy lies, the slot has its header
pub lies_there : (held : List (Option HeaderValue)) (key : List ℕ) (copy : Copy) (l : LiesIn 0 held key copy) → slice_get held copy.place.slot ≡ Some (Some l.header)
lies_there held key copy l =
    let slot : l.index ≡ copy.place.slot = omega (arith, ap (λ (x : Copy). x.place.slot) l.copy_is) in
    ap (slice_get held) (sym slot) ∙ slice_get-get_or held l.index None l.within ∙ ap Some l.there

-- a key whose newest copy came after the collection began is live
pub new_live : (index : PlaceMap) (live : LiveKeys) (snapshot : ℕ) (held : List (Option HeaderValue)) (key : List ℕ) (copy : Copy) → NewAreLive index live snapshot held
    → newest 0 held key ≡ Some copy
    → snapshot ≤ copy.id → IsLive index live key
new_live index live snapshot held key copy all is new =
    let l = lies 0 held key copy is in
    let id : copy.id ≡ l.header.id = ap (λ (x : Copy). x.id) l.copy_is in
    let each = all copy.place.slot l.header (lies_there held key copy l) (omega (arith, new, id)) in
    let found = found_so (λ e. IsLive index live (entry_key l.header.kind e)) _ l.header.entries l.entry
    (recursion_from_All (λ (e : Entry). IsLive index live (entry_key l.header.kind e)) l.header.entries each) l.found in
    subst (IsLive index live) ((bytes_eq-Decides (entry_key l.header.kind l.entry) key).0 found.1) found.0

-- ---- keys that were found

-- a child of the node of an entry that was scanned
pub record IsChildOf (P : Entry → Type 0) (s : Scan) (showed : Place → List ℕ → Type 0) (key : List ℕ) : Type 0 where
  pub entry : Entry
  pub node : Contents
  pub rule : P entry
  pub to_scan : IsToScan s entry
  pub node_is : IsNodeOf s.layer showed entry node
  pub child : Contains (child_keys node) key

module _ (P : Entry → Type 0) (s : Scan) (showed : Place → List ℕ → Type 0) (key : List ℕ) where
  pub child_found : (es : List Entry) (nodes : List Contents) → AllByRecursion P es → HaveNodes s showed es nodes → Contains (flat_map child_keys nodes) key
      → IsChildOf P s showed key
  child_found [] nodes all have there = absurd (contains_none key (subst (λ (ns : List Contents). Contains (flat_map child_keys ns) key) have there))
  child_found (e ∷ es) nodes all (inl over) there = child_found es nodes all.1 over.1 there
  child_found (e ∷ es) nodes all (inr has) there =
      by_place
      (Contains-append_cases (child_keys has.0) (flat_map child_keys has.1.0) key (subst (λ (ns : List Contents). Contains (flat_map child_keys ns) key) has.1.1.0 there))
      (child_found es has.1.0 all.1 has.1.1.3)
    where
      by_place : Contains (child_keys has.0) key ⊎ Contains (flat_map child_keys has.1.0) key → (Contains (flat_map child_keys has.1.0) key → IsChildOf P s showed key)
          → IsChildOf P s showed key
      by_place (inl here) rest = record { entry = e; node = has.0; rule = all.0; to_scan = has.1.1.1; node_is = has.1.1.2; child = here }
      by_place (inr later) rest = rest later

-- ---- the nodes

-- a live node of a level whose newest copy lies in a slot
pub record IsLiveNode (index : PlaceMap) (live : LiveKeys) (held : List (Option HeaderValue)) (image : List ℕ) (level : ℕ) (n : Contents) : Type 0 where
  pub copy : Copy
  pub node : HoldsNode held image n copy
  pub is_live : IsLive index live (node_key n)
  pub level_is : n.level ≡ level

-- an entry of a level above that of data is of a tree
pub tree_kind : (kind : Kind) (level : ℕ) → 1 ≤ level → is_level kind level ≡ true → kind ≡ Tree
tree_kind Leaf level some is = let zero_level : level ≡ 0 = eqb-true level 0 is in absurd (omega (arith, some, zero_level))
tree_kind Tree level some is = refl

module _ (index : PlaceMap) (store : Store) (files : Files) (image : List ℕ) (holds : IsStoreOf store files image) (partial : IsPartialIndexOf store.held index)
    (old new : DiskView)
    (content : old.content ≡ Some image) (level slot : ℕ) (h : HeaderValue) (before : LiveKeys) where
  abbrev scan : Scan
  scan = scan_for (Some index) before slot level h

  -- what was scanned is such a node
  pub scanned_node : (e : Entry) (n : Contents) → is_level h.kind e.level ≡ true → IsToScan scan e → IsNodeOf scan.layer (ShowsAt old new) e n
      → IsLiveNode index before store.held image level n
  scanned_node e n rule to_scan node =
      let kind : h.kind ≡ Tree = tree_kind h.kind e.level (omega (arith, to_scan.level_is, node.level_is, node.right.above)) rule in
      let key : entry_key h.kind e ≡ node_key n = ap (λ (k : Kind). key_of (kind_byte k) e.digest) kind ∙ ap (key_of 1) (sym node.digest_is) in
      let place : Place = place_of slot e in
      let has : finite.get index (node_key n) ≡ Some place = ap (finite.get index) (sym key) ∙ to_scan.copy index refl in
      let found = finds store index (node_key n) place partial has in
      record {
        copy = found.0;
        node = record {
          right = node.right;
          copy_is = found.1;
          bytes_are = ap (λ (p : Place). bytes_at p image) found.2 ∙ shown_content old new (λ (i : List ℕ). bytes_at place i ≡ spelling n) image node.shown content;
        };
        is_live = (place, (has, subst (λ (k : List ℕ). IsLiveAt before k place) key to_scan.live));
        level_is = node.level_is;
      }

  -- the node that a scan read of an entry is the one whose copy lies there
  same_node : (e : Entry) (m n : Contents) (copy : Copy) → copy.place ≡ place_of slot e → IsNodeOf scan.layer (ShowsAt old new) e m → HoldsNode store.held image n copy → m ≡ n
  same_node e m n copy place read node =
      let bytes : bytes_at (place_of slot e) image ≡ spelling m = shown_content old new (λ (i : List ℕ). bytes_at (place_of slot e) i ≡ spelling m) image read.shown content in
      let there : bytes_at (place_of slot e) image ≡ spelling n = ap (λ (p : Place). bytes_at p image) (sym place) ∙ node.bytes_are in
      one_spelling m n read.right node.right (sym bytes ∙ there)

  -- The children of such a node in the slot are live, where those of each entry that is to be scanned are.
  module _ (there : slice_get store.held slot ≡ Some (Some h)) (after : LiveKeys) (children : All (HasLiveChildren scan (ShowsAt old new) after) h.entries) where
    live_in : (below : ℕ) (key : List ℕ) → IsLiveOf (Some index) after below key → IsLive index after key
    live_in below key is = (is.0, (is.1.0 index refl, is.1.1))

    closed_by : (e : Entry) (m n : Contents) (copy : Copy) → copy.place ≡ place_of slot e → IsNodeOf scan.layer (ShowsAt old new) e m → HoldsNode store.held image n copy
        → All (IsLiveOf (Some index) after (m.level - 1)) (child_keys m) → All (IsLive index after) (child_keys n)
    closed_by e m n copy place read node live =
        subst (λ (x : Contents). All (IsLive index after) (child_keys x)) (same_node e m n copy place read node)
        (All-weaker (IsLiveOf (Some index) after (m.level - 1)) (IsLive index after) (live_in (m.level - 1)) (child_keys m) live)

    pub node_scanned : (n : Contents) (copy : Copy) → HoldsNode store.held image n copy → IsLive index before (node_key n) → n.level ≡ level → copy.place.slot ≡ slot
        → All (IsLive index after) (child_keys n)
    node_scanned n copy node live level_is slot_is =
        let l = lies 0 store.held (node_key n) copy node.copy_is in
        let header : l.header ≡ h =
        some_same l.header h (some_same (Some l.header) (Some h) (sym (lies_there store.held (node_key n) copy l) ∙ ap (slice_get store.held) slot_is ∙ there)) in
        let place : copy.place ≡ place_of slot l.entry =
        ap (λ (c : Copy). c.place) l.copy_is ∙ ap (λ (s : ℕ). place_of s l.entry) (sym (ap (λ (c : Copy). c.place.slot) l.copy_is) ∙ slot_is) in
        let here : AllByRecursion (HasLiveChildren scan (ShowsAt old new) after) l.header.entries =
        subst (λ (g : HeaderValue). AllByRecursion (HasLiveChildren scan (ShowsAt old new) after) g.entries) (sym header)
        (recursion_from_All (HasLiveChildren scan (ShowsAt old new) after) h.entries children) in
        let found = found_so (HasLiveChildren scan (ShowsAt old new) after) _ l.header.entries l.entry here l.found in
        let key : entry_key h.kind l.entry ≡ node_key n =
        ap (λ (g : HeaderValue). entry_key g.kind l.entry) (sym header) ∙ (bytes_eq-Decides (entry_key l.header.kind l.entry) (node_key n)).0 found.1 in
        let other = finds store index (node_key n) live.0 partial live.1.0 in
        let indexed : live.0 ≡ place_of slot l.entry = sym other.2 ∙ ap (λ (c : Copy). c.place) (some_same other.0 copy (sym other.1 ∙ node.copy_is)) ∙ place in
        let so = newest_so IsNodeEntry store.held Tree (node_digest n) image copy (nodes_so 0 store.held image holds.nodes) node.copy_is in
        let same : so.so.node ≡ n = one_spelling so.so.node n so.so.right node.right (sym so.so.spelled ∙ node.bytes_are) in
        let entry_level : l.entry.level ≡ level =
        sym (ap (λ (p : Place). p.level) place) ∙ so.level_is ∙ sym so.so.level_is ∙ ap (λ (m : Contents). m.level) same ∙ level_is in
        let to_scan : IsToScan scan l.entry = record {
          level_is = entry_level;
          live = subst (λ (k : List ℕ). IsLiveAt before k (place_of slot l.entry)) (sym key) (subst (IsLiveAt before (node_key n)) indexed live.1.1);
          copy = λ m known. subst (λ (o : PlaceMap). finite.get o (entry_key h.kind l.entry) ≡ Some (place_of slot l.entry)) (some_same index m known)
              (ap (finite.get index) key ∙ live.1.0 ∙ ap Some indexed);
        } in
        let has = found.0 to_scan in
        closed_by l.entry has.0 n copy place has.1.0 node has.1.1
