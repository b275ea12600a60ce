-- A scan keeps marks closed.
use Rattle.gc_steps.proofs.Prelude.{◌≡◌, ◌⊎◌, inl, inr, ℕ, ◌+◌, ◌<◌, true, List, [], ◌++◌, length, take, Option, Some, refl, sym, ◌∙◌, ap, subst, arith, slice_get, All, AllByRecursion, flat_map, All-contains, All-from_recursion, All-weaker, recursion_from_All, Part, Entry, Place, is_level, PlaceMap, HeaderValue, IsHeader, DiskView, shown_content, LiveKeys, IsAmong, HaveNodes, Scan, child_keys, among_keys, level_of, Refusal, Memory, Files, Store, entry_key, HoldsSlot, IsPartialIndexOf, IsStoreOf, node_key, have_levels, Represents, Tables, Collection, Stage, Mark, IsLive, HoldsNode, IsWhole, KeepsMarks, MarksOnly, Scans, ScansEntries, ScansSome, scan_for, IsPassed, MarksAreClosed, WasScanned, ShowsAt, mark_from}
use Rattle.std.specs.List.{Contains}
use Rattle.std.proofs.lemmas.List.Elements.{All-take}
use Rattle.gc_enumerate.specs.Live.{IsLiveAt}
use Rattle.gc_enumerate.specs.Scanning.{keys_of}
use Rattle.merkle_file.specs.Node.{Contents}
use Rattle.merkle_file.specs.Tree.{Tree}
use Rattle.store_model.specs.Slots.{Copy}
use Rattle.store_model.proofs.Free.{as_many}
use Rattle.gc_steps.proofs.ChildTrees.{IsTreeOf, IsWholeBelow, children_whole, node_of_whole}
use Rattle.gc_steps.proofs.FoundNodes.{IsLiveNode, child_found, new_live, node_scanned, scanned_node}
use Rattle.gc_steps.proofs.NextStage.{PassesOne, passes_one}
use Rattle.gc_steps.proofs.AllFound.{first_ones}
use Rattle.gc_sweep.proofs.SourceRead.{header_in}

-- the level of a tree that is a node's
level_of_tree : (t : Tree (List ℕ)) (n : Contents) → IsTreeOf t n → level_of t ≡ n.level
level_of_tree t n is = ap level_of is.tree_is ∙ ap (λ (m : Contents). m.level) is.node_is

-- A key that became live: a child of a node of the level that was live.
pub record IsNewKey (index : PlaceMap) (live : LiveKeys) (held : List (Option HeaderValue)) (image : List ℕ) (level : ℕ) (key : List ℕ) : Type 0 where
  pub parent : Contents
  pub was_live : IsLiveNode index live held image level parent
  pub child : Contains (child_keys parent) key

-- ---- marks stay closed

module _ (index : PlaceMap) (store : Store) (parts : List Part) (image : List ℕ) (level slot : ℕ) (before after : Collection)
    (closed : MarksAreClosed index store parts image before)
    (was : before.stage ≡ Mark level slot) (same : after.snapshot ≡ before.snapshot) where
  abbrev Was : List ℕ → Type 0
  Was key = IsLive index before.live key

  abbrev Now : List ℕ → Type 0
  Now key = IsLive index after.live key

  abbrev IsNew : List ℕ → Type 0
  IsNew key = IsNewKey index before.live store.held image level key

  -- The tree of a key that became live is held whole, and its root is one level below.
  below_parent : (key : List ℕ) → IsNew key → IsWholeBelow index store.held image level key
  below_parent key is =
      let n = is.was_live in
      subst (λ (l : ℕ). IsWholeBelow index store.held image l key) n.level_is
      (All-contains (IsWholeBelow index store.held image is.parent.level) (child_keys is.parent) key
      (children_whole index store.held image is.parent n.copy n.node (closed.live_is_whole (node_key is.parent) n.is_live)) is.child)

  new_level : (n : Contents) (copy : Copy) → HoldsNode store.held image n copy → IsNew (node_key n) → n.level + 1 ≡ level
  new_level n copy node fresh =
      let below = below_parent (node_key n) fresh in
      let level_is = level_of_tree below.is_whole.whole n (node_of_whole index store.held image (node_key n) n copy below.is_whole node refl) in
      omega (arith, below.below, level_is)

  -- Where what was live stays so, just children of nodes of the level became live, no node was passed that had not been before, but those of
  -- the level in the slot, and the children of these are live, if they were live before:
  module _ (stays : (key : List ℕ) → Was key → Now key) (just : (key : List ℕ) → Now key → Was key ⊎ IsNew key)
      (passes : (n : Contents) (copy : Copy) → HoldsNode store.held image n copy → IsPassed after n.level copy → PassesOne level slot before n copy)
      (others : (n : Contents) (copy : Copy) → HoldsNode store.held image n copy → Was (node_key n) → IsPassed after n.level copy → IsPassed before n.level copy
      ⊎ All Now (child_keys n)) where
    now_whole : (key : List ℕ) → Now key → IsWhole index store.held image key
    now_whole key is = by_case (just key is)
      where
        by_case : Was key ⊎ IsNew key → IsWhole index store.held image key
        by_case (inl earlier) = closed.live_is_whole key earlier
        by_case (inr fresh) = (below_parent key fresh).is_whole

    -- of a node that was live already
    closed_before : (n : Contents) (copy : Copy) → HoldsNode store.held image n copy → Was (node_key n) → IsPassed after n.level copy → All Now (child_keys n)
    closed_before n copy node live passed = by_case (others n copy node live passed)
      where
        by_case : IsPassed before n.level copy ⊎ All Now (child_keys n) → All Now (child_keys n)
        by_case (inl earlier) = All-weaker Was Now stays (child_keys n) (closed.passed_is_closed n copy node live earlier)
        by_case (inr all) = all

    -- and of one that became live: it was passed only where it came after the collection began, and was live already then
    closed_new : (n : Contents) (copy : Copy) → HoldsNode store.held image n copy → IsNew (node_key n) → IsPassed after n.level copy → All Now (child_keys n)
    closed_new n copy node fresh passed = by_case (passes n copy node passed)
      where
        low : n.level + 1 ≡ level
        low = new_level n copy node fresh

        not_scanned : WasScanned (Mark level slot) n.level copy.place.slot → ⊥
        not_scanned (inl above) = omega (arith, low, above)
        not_scanned (inr here) = omega (arith, low, here.0)

        by_case : PassesOne level slot before n copy → All Now (child_keys n)
        by_case (inl (inl earlier)) = absurd (not_scanned (subst (λ (s : Stage). WasScanned s n.level copy.place.slot) was earlier))
        by_case (inl (inr late)) =
            closed_before n copy node (new_live index before.live before.snapshot store.held (node_key n) copy closed.new_are_live node.copy_is late) passed
        by_case (inr here) = absurd (omega (arith, low, here.0))

    closed_now : (n : Contents) (copy : Copy) → HoldsNode store.held image n copy → Now (node_key n) → IsPassed after n.level copy → All Now (child_keys n)
    closed_now n copy node live passed = by_case (just (node_key n) live)
      where
        by_case : Was (node_key n) ⊎ IsNew (node_key n) → All Now (child_keys n)
        by_case (inl earlier) = closed_before n copy node earlier passed
        by_case (inr fresh) = closed_new n copy node fresh passed

    stays_closed : MarksAreClosed index store parts image after
    stays_closed = record {
      roots_are_live = λ key root. stays key (closed.roots_are_live key root);
      live_is_whole = now_whole;
      passed_is_closed = closed_now;
      new_are_live = λ at g there_is late. All-weaker (λ (e : Entry). Was (entry_key g.kind e)) (λ (e : Entry). Now (entry_key g.kind e))
          (λ e is. stays (entry_key g.kind e) is) g.entries
          (closed.new_are_live at g there_is (omega (arith, late, same)));
    }

-- ---- what was marked

module _ (index : PlaceMap) (store : Store) (files : Files) (image : List ℕ) (holds : IsStoreOf store files image) (partial : IsPartialIndexOf store.held index)
    (old new : DiskView) (content : old.content ≡ Some image) (level slot : ℕ) (h : HeaderValue) (right : IsHeader h) (live : LiveKeys) where
  abbrev scan : Scan
  scan = scan_for (Some index) live slot level h

  abbrev HasRule : Entry → Type 0
  HasRule e = is_level h.kind e.level ≡ true

  rules : AllByRecursion HasRule h.entries
  rules = have_levels h.kind h.kind [] h.entries refl right.entries

  key_of_node : (es : List Entry) (nodes : List Contents) (key : List ℕ) → AllByRecursion HasRule es → HaveNodes scan (ShowsAt old new) es nodes
      → Contains (flat_map child_keys nodes) key
      → IsNewKey index live store.held image level key
  key_of_node es nodes key all have child =
      let found = child_found HasRule scan (ShowsAt old new) key es nodes all have child in
      record {
        parent = found.node;
        was_live = scanned_node index store files image holds partial old new content level slot h live found.entry found.node found.rule found.to_scan found.node_is;
        child = found.child;
      }

  -- of all entries
  pub new_key : (after : LiveKeys) (scanned : ScansEntries (Some index) old new slot level h live after) (key : List ℕ) (place : Place) → IsAmong key place scanned.marks.found
      → IsNewKey index live store.held image level key
  new_key after scanned key place among =
      key_of_node h.entries scanned.marks.finds.nodes key rules scanned.marks.finds.nodes_are
      (subst (λ (keys : List (List ℕ)). Contains keys key) scanned.marks.finds.keys_are (among_keys key place scanned.marks.found among))

  -- of some
  pub some_key : (after : LiveKeys) (scanned : ScansSome (Some index) old new slot level h live after) (key : List ℕ) (place : Place) → IsAmong key place scanned.marks.0
      → IsNewKey index live store.held image level key
  some_key after scanned key place among =
      let some : Contains (keys_of (scanned.marks.0 ++ scanned.marks.1.0)) key = first_ones _ scanned.marks.0 scanned.marks.1.0 key (among_keys key place scanned.marks.0 among) in
      let all : Contains (keys_of scanned.found) key = subst (λ found. Contains (keys_of found) key) (sym scanned.marks.1.1.0) some in
      key_of_node (take scanned.count h.entries) scanned.finds.nodes key
      (recursion_from_All HasRule (take scanned.count h.entries) (All-take HasRule scanned.count h.entries (All-from_recursion HasRule h.entries rules))) scanned.finds.nodes_are
      (subst (λ (keys : List (List ℕ)). Contains keys key) scanned.finds.keys_are all)

module _ (index : PlaceMap) (store : Store) (files : Files) (parts : List Part) (image : List ℕ) (holds : IsStoreOf store files image) (partial : IsPartialIndexOf store.held index)
    (old new : DiskView) (content : old.content ≡ Some image) (level slot : ℕ) (h : HeaderValue) (right : IsHeader h) (before after : Collection)
    (closed : MarksAreClosed index store parts image before) (was : before.stage ≡ Mark level slot) (same : after.snapshot ≡ before.snapshot) where
  -- where all became live
  module _ (scanned : ScansEntries (Some index) old new slot level h before.live after.live) where
    was_or_new : (key : List ℕ) → IsLive index after.live key → IsLive index before.live key ⊎ IsNewKey index before.live store.held image level key
    was_or_new key is = by_case ((scanned.marks.marks key is.0).0 is.1.1)
      where
        by_case : IsLiveAt before.live key is.0 ⊎ IsAmong key is.0 scanned.marks.found → IsLive index before.live key ⊎ IsNewKey index before.live store.held image level key
        by_case (inl earlier) = inl (is.0, (is.1.0, earlier))
        by_case (inr among) = inr (new_key index store files image holds partial old new content level slot h right before.live after.live scanned key is.0 among)

    scanned_closed : slice_get store.held slot ≡ Some (Some h)
        → ((n : Contents) (copy : Copy) → HoldsNode store.held image n copy → IsPassed after n.level copy → PassesOne level slot before n copy)
        → MarksAreClosed index store parts image after
    scanned_closed there passes =
        stays_closed index store parts image level slot before after closed was same (λ key is. (is.0, (is.1.0, (scanned.marks.marks key is.0).1 (inl is.1.1)))) was_or_new passes
        (λ n copy node live passed. by_case n copy node live (passes n copy node passed))
      where
        by_case : (n : Contents) (copy : Copy) → HoldsNode store.held image n copy → IsLive index before.live (node_key n) → PassesOne level slot before n copy
            → IsPassed before n.level copy ⊎ All (IsLive index after.live) (child_keys n)
        by_case n copy node live (inl earlier) = inl earlier
        by_case n copy node live (inr here) =
            inr (node_scanned index store files image holds partial old new content level slot h before.live there after.live
            (scanned.children index refl) n copy node live here.0 here.1)

  -- where some did
  module _ (scanned : ScansSome (Some index) old new slot level h before.live after.live) (stage_stays : after.stage ≡ before.stage) where
    was_or_some : (key : List ℕ) → IsLive index after.live key → IsLive index before.live key ⊎ IsNewKey index before.live store.held image level key
    was_or_some key is = by_case ((scanned.marks.1.1.1 key is.0).0 is.1.1)
      where
        by_case : IsLiveAt before.live key is.0 ⊎ IsAmong key is.0 scanned.marks.0 → IsLive index before.live key ⊎ IsNewKey index before.live store.held image level key
        by_case (inl earlier) = inl (is.0, (is.1.0, earlier))
        by_case (inr among) = inr (some_key index store files image holds partial old new content level slot h right before.live after.live scanned key is.0 among)

    passed_before : (l : ℕ) (copy : Copy) → IsPassed after l copy → IsPassed before l copy
    passed_before l copy (inl is) = inl (subst (λ (s : Stage). WasScanned s l copy.place.slot) stage_stays is)
    passed_before l copy (inr late) = inr (omega (arith, late, same))

    some_closed : MarksAreClosed index store parts image after
    some_closed =
        stays_closed index store parts image level slot before after closed was same (λ key is. (is.0, (is.1.0, (scanned.marks.1.1.1 key is.0).1 (inl is.1.1)))) was_or_some
        (λ n copy node passed. inl (passed_before n.level copy passed)) (λ n copy node live passed. inl (passed_before n.level copy passed))

-- ---- a container is scanned, by what `mark_container` says, on a disk whose content stands for the files by the store

module _ (index : PlaceMap) (store : Store) (files : Files) (parts : List Part) (image : List ℕ) (t : Tables) (old new : DiskView) (level slot : ℕ) (before after : Collection)
    (holds : IsStoreOf store files image) (represents : Represents store (Some index) t) (content : old.content ≡ Some image) (was : before.stage ≡ Mark level slot)
    (closed : MarksAreClosed index store parts image before) where
  -- Marks stay closed.
  pub scan_keeps : slot < length t.held.ids.items → Scans t.held (Some index) old new level slot before after → MarksAreClosed index store parts image after
  scan_keeps within scans =
      let slots = represents.slots_hold in
      let inside : slot < length store.held = omega (arith, within, ap length slots.ids_are, as_many store.held) in
      let shown : HoldsSlot image slot (Some scans.header) = shown_content old new (λ (i : List ℕ). HoldsSlot i slot (Some scans.header)) image scans.shown content in
      let there : slice_get store.held slot ≡ Some (Some scans.header) = header_in store.held image slot scans.header holds.right.slots_are inside shown in
      let same : after.snapshot ≡ before.snapshot = ap (λ (c : Collection). c.snapshot) scans.collection_is in
      let now : after.stage ≡ mark_from before.snapshot t.held level (slot + 1) = ap (λ (c : Collection). c.stage) scans.collection_is in
      scanned_closed index store files parts image holds
      (represents.index_is_newest index refl) old new content level slot scans.header scans.right before after closed was same scans.scanned there
      (passes_one store.held image t.held holds.right.slots_are slots level slot before after was now same)

  only_keeps : MarksOnly (Some index) old new level slot before after → MarksAreClosed index store parts image after
  only_keeps only =
      some_closed index store files parts image holds (represents.index_is_newest index refl) old new content level slot only.header only.right before after closed was
      (ap (λ (c : Collection). c.snapshot) only.collection_is) only.scanned (ap (λ (c : Collection). c.stage) only.collection_is)

  -- So they do where it is refused.
  pub refusal_keeps : (refusal : Refusal) → KeepsMarks (Some index) old new level slot before after refusal → MarksAreClosed index store parts image after
  refusal_keeps = by_refusal
    where
      no_change : after ≡ before → MarksAreClosed index store parts image after
      no_change is = subst (MarksAreClosed index store parts image) (sym is) closed

      by_memory : (after ≡ before) ⊎ MarksOnly (Some index) old new level slot before after → MarksAreClosed index store parts image after
      by_memory (inl is) = no_change is
      by_memory (inr only) = only_keeps only

      by_refusal : (refusal : Refusal) → KeepsMarks (Some index) old new level slot before after refusal → MarksAreClosed index store parts image after
      by_refusal Memory kept = by_memory kept
      by_refusal _ kept = no_change kept
